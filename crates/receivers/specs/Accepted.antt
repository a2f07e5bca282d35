-- What a try to take a connection gave.
use Rattle.std.specs.Prelude.{⊤}
use Rattle.receivers.specs.declared.accept.AcceptOutcome.{AcceptOutcome}
use Rattle.receivers.specs.declared.accept.AcceptOutcome.TheVariants.{Stream}

-- of the connection, if one was taken
abbrev pub IfTaken : {S : Type 0} → AcceptOutcome S → (S → Type 0) → Type 0
IfTaken (Stream stream) is = is stream
IfTaken _ is = ⊤
