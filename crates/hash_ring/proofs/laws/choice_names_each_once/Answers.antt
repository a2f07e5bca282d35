use Rattle.hash_ring.proofs.BelowLemmas.{choice_once}
use Rattle.hash_ring.proofs.laws.choice_names_each_once.Goals as goal

pub returns : goal.returns
returns c = choice_once
