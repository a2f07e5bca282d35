use Rattle.hash_ring.proofs.LawLemmas.{walk_each_once}
use Rattle.hash_ring.proofs.laws.walk_visits_each_once.Goals as goal

pub returns : goal.returns
returns c = walk_each_once
