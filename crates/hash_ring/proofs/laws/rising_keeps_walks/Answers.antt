use Rattle.hash_ring.proofs.LawLemmas.{walk-rising}
use Rattle.hash_ring.proofs.laws.rising_keeps_walks.Goals as goal

pub returns : goal.returns
returns c = walk-rising
