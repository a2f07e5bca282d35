use Rattle.hash_ring.proofs.AddedLemmas.{choice_without}
use Rattle.hash_ring.proofs.laws.node_taken_off_leaves_others.Goals as goal

pub returns : goal.returns
returns c = choice_without
