-- What holds of a connection that was taken.
use Rattle.receivers.specs.Accepted.{IfTaken}
use Rattle.receivers.specs.declared.accept.AcceptOutcome.{AcceptOutcome}
use Rattle.receivers.specs.declared.accept.AcceptOutcome.TheVariants.{Stream}

pub IfTaken-weaker : {S : Type 0} (outcome : AcceptOutcome S) (is also : S → Type 0) → ((stream : S) → is stream → also stream) → IfTaken outcome is → IfTaken outcome also
IfTaken-weaker (Stream stream) is also weaker h = weaker stream h
IfTaken-weaker _ is also weaker h = tt
