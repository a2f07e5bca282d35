use Rattle.hash_ring.proofs.BelowLemmas.{choice_below}
use Rattle.hash_ring.proofs.laws.choice_stays_below.Goals as goal

pub returns : goal.returns
returns c = choice_below
