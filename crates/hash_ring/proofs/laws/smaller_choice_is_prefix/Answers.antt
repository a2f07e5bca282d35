use Rattle.hash_ring.proofs.LawLemmas.{choice_prefix}
use Rattle.hash_ring.proofs.laws.smaller_choice_is_prefix.Goals as goal

pub returns : goal.returns
returns c = choice_prefix
