use Rattle.std.proofs.Common.{take}
use Rattle.std.specs.String.{string_bytes}
use Rattle.replay.specs.RunEvents.{EventsCome}
use Rattle.replay.proofs.run_events.apply_all.Given as goal

-- the events so far were applied
abbrev pub invariant-loop-event : goal.invariant-loop-event
invariant-loop-event l =
    EventsCome l.fn.world l.world (take l.event-index l.events) (string_bytes l.fn.text) (string_bytes l.text)
