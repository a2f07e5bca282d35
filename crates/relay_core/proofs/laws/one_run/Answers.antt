use Rattle.reader_core.specs.Kinds.{relay_reading}
use Rattle.reader_core.specs.PlanConfiguration.{configuration_of}
use Rattle.relay_core.proofs.laws.one_run.Goals as goal

pub returns : goal.returns
returns c = λ plan size limit l order agrees.
    c.one_run_of_any.ensures relay_reading c.orderly.ensures (configuration_of plan size limit) l order agrees
