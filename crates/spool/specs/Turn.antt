-- What a turn gives out.
use Rattle.spool.specs.declared.turn.Turn.{Turn}
use Rattle.spool.specs.declared.turn.Turn.TheVariants.{Over, GivenUp}

-- of the connection, if the file is over
abbrev pub IfOver : {W : Type 0} → Turn W → (W → Type 0) → Type 0
IfOver (Over sink) is = is sink
IfOver _ is = Unit {0}

-- of the connection, if the file is given up
abbrev pub IfGivenUp : {W : Type 0} → Turn W → (W → Type 0) → Type 0
IfGivenUp (GivenUp sink code) is = is sink
IfGivenUp _ is = Unit {0}
