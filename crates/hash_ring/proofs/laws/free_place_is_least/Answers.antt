use Rattle.hash_ring.proofs.LawLemmas.{least_free}
use Rattle.hash_ring.proofs.laws.free_place_is_least.Goals as goal

pub returns : goal.returns
returns c = least_free
