use Rattle.hash_ring.proofs.AddedLemmas.{choice_new_destination}
use Rattle.hash_ring.proofs.laws.new_destination_takes_its_own.Goals as goal

pub returns : goal.returns
returns c = choice_new_destination
