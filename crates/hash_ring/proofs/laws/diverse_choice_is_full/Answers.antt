use Rattle.hash_ring.proofs.FullLemmas.{choice_full}
use Rattle.hash_ring.proofs.laws.diverse_choice_is_full.Goals as goal

pub returns : goal.returns
returns c = choice_full
