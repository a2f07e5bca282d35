use Rattle.backlog.proofs.ConnectionsLemmas.{nothing-lost}
use Rattle.backlog.proofs.laws.nothing_is_lost.Goals as goal

pub returns : goal.returns
returns c = nothing-lost
