use Rattle.mio_loops.proofs.ReadingLemmas.{goes-then}
use Rattle.mio_loops.proofs.read_laws.goes_add_up.Goals as goal

pub returns : goal.returns
returns c = goes-then
