use Rattle.std.proofs.Common.{◌≡◌, ◌≤◌, ◌+◌, ◌++◌, length, map, vec_len, vec_capacity}
use Rattle.std.specs.Slice.Iter.{iter_rest}
use Rattle.mio.specs.Event.{event_token}
use Rattle.mio.specs.Events.{items}
use Rattle.mio_loops.proofs.readiness.list_tokens.Given as goal

abbrev pub invariant-loop-event : goal.invariant-loop-event
invariant-loop-event l =
    (map (λ token. token.0) l.ready.items
    ++ map (λ event. (event_token event).0) (iter_rest l.event-iterator)
    ≡ map (λ event. (event_token event).0) (items l.fn.events))
    × (vec_len l.ready + length (iter_rest l.event-iterator) ≤ vec_capacity l.ready)
    × (vec_capacity l.ready ≡ vec_capacity l.fn.ready)
