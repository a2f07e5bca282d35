use Rattle.hash_ring.proofs.BelowLemmas.{choice_apart}
use Rattle.hash_ring.proofs.laws.diverse_choice_is_apart.Goals as goal

pub returns : goal.returns
returns c = choice_apart
