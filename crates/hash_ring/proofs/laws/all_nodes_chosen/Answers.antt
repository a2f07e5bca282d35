use Rattle.hash_ring.proofs.LawLemmas.{each_once}
use Rattle.hash_ring.proofs.laws.all_nodes_chosen.Goals as goal

pub returns : goal.returns
returns c = each_once
