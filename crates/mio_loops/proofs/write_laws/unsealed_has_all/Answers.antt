use Rattle.mio_loops.proofs.WriterLogLemmas.{unsealed-has_all}
use Rattle.mio_loops.proofs.write_laws.unsealed_has_all.Goals as goal

pub returns : goal.returns
returns c = unsealed-has_all
