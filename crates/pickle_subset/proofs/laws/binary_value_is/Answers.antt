use Rattle.pickle_subset.proofs.BinaryValueLemmas.{IsBinaryValue-from, binary_value-from}
use Rattle.pickle_subset.proofs.laws.binary_value_is.Goals as goal

pub returns : goal.returns
returns c = λ bits u. (IsBinaryValue-from bits u, binary_value-from bits u)
