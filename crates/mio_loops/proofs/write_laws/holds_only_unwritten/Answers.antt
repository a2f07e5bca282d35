use Rattle.mio_loops.proofs.StepsLemmas.{holds_only_unwritten}
use Rattle.mio_loops.proofs.write_laws.holds_only_unwritten.Goals as goal

pub returns : goal.returns
returns c = holds_only_unwritten
