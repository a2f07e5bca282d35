use Rattle.hash_ring.proofs.LawLemmas.{rising_in_order}
use Rattle.hash_ring.proofs.laws.rising_is_in_order.Goals as goal

pub returns : goal.returns
returns c = rising_in_order
