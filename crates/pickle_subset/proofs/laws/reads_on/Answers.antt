use Rattle.pickle_subset.proofs.ReadOnLemmas.{reads_on}
use Rattle.pickle_subset.proofs.laws.reads_on.Goals as goal

pub returns : goal.returns
returns c = λ connection more moment goes. reads_on connection more moment goes
