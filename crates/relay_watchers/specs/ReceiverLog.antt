-- What the log has reported of a receiver.
use Rattle.relay_watchers.specs.declared.receiver_log.ReceiverLog.{ReceiverLog}

-- a log goes on from an earlier one: it has reported what that one has, state, counts, refusals, losses and when there was an
-- example, and nothing else of it changes
abbrev pub resumed_from : (earlier own : ReceiverLog) → ReceiverLog
resumed_from earlier own =
    record own {
      logged = earlier.logged;
      counts = earlier.counts;
      refusals = earlier.refusals;
      losses = earlier.losses;
      example = earlier.example;
    }
