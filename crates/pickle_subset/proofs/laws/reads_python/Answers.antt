use Rattle.pickle_subset.proofs.PythonLemmas.{reads-python}
use Rattle.pickle_subset.proofs.laws.reads_python.Goals as goal

pub returns : goal.returns
returns c = λ protocol objects l last is. reads-python objects protocol l last is
