use Rattle.reader_core.specs.Kinds.{relay_reading}
use Rattle.relay_core.specs.Relay.{run_of}
use Rattle.relay_core.proofs.laws.prefix.Goals as goal

pub returns : goal.returns
returns c = λ plan size limit kinds events.
    let run = run_of plan size limit kinds events in
    let once = c.configuration_of_plan.ensures.once plan size limit in
    record {
      offers = c.prefix_of_any.ensures.offers relay_reading c.orderly.ensures run once;
      carries = c.prefix_of_any.ensures.carries relay_reading c.orderly.ensures run once;
      hands_over = c.prefix_of_any.ensures.hands_over relay_reading run;
      writes = c.prefix_of_any.ensures.writes relay_reading run;
    }
