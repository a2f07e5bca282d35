use Rattle.hash_ring.proofs.LawLemmas.{plain_choice}
use Rattle.hash_ring.proofs.laws.plain_choice_is_first_nodes.Goals as goal

pub returns : goal.returns
returns c = plain_choice
