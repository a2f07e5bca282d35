use Rattle.mio_loops.proofs.RecordLemmas.{is-record}
use Rattle.mio_loops.proofs.read_laws.is_record.Goals as goal

pub returns : goal.returns
returns c = is-record c.configuration_of_plan.ensures.sends
