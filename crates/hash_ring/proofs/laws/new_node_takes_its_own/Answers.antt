use Rattle.hash_ring.proofs.AddedLemmas.{choice_added}
use Rattle.hash_ring.proofs.laws.new_node_takes_its_own.Goals as goal

pub returns : goal.returns
returns c = choice_added
