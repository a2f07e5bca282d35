-- What a turn gives out.
use Rattle.handover.specs.declared.rest_turn.RestTurn.{RestTurn}
use Rattle.handover.specs.declared.rest_turn.RestTurn.TheVariants.{Over}

-- of the connection, if the rest is over
abbrev pub IfOver : {W : Type 0} → RestTurn W → (W → Type 0) → Type 0
IfOver (Over sink) is = is sink
IfOver _ is = Unit {0}

-- if the connection is not given out
abbrev pub IfNotOver : {W : Type 0} → RestTurn W → Type 0 → Type 0
IfNotOver (Over _) holds = Unit {0}
IfNotOver _ holds = holds
