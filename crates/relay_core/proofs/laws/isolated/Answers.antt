use Rattle.reader_core.specs.Kinds.{relay_reading}
use Rattle.relay_core.specs.Relay.{run_of}
use Rattle.relay_core.proofs.laws.isolated.Goals as goal

pub returns : goal.returns
returns c =
    λ plan other size limit other_size other_limit kinds other_kinds events other_events d within other_within agrees.
    c.isolated_of_any.ensures relay_reading c.orderly.ensures (run_of plan size limit kinds events)
    (run_of other other_size other_limit other_kinds other_events) (c.configuration_of_plan.ensures.once plan size limit)
    (c.configuration_of_plan.ensures.once other other_size other_limit) d within other_within agrees
