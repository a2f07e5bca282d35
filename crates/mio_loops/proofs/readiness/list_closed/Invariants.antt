use Rattle.std.proofs.Common.{◌≡◌, ◌≤◌, ◌+◌, length, vec_len, vec_capacity}
use Rattle.std.specs.Slice.Iter.{iter_rest}
use Rattle.mio_loops.proofs.readiness.list_closed.Given as goal

abbrev pub invariant-loop-event : goal.invariant-loop-event
invariant-loop-event l =
    (vec_len l.closed + length (iter_rest l.event-iterator) ≤ vec_capacity l.closed)
    × (vec_capacity l.closed ≡ vec_capacity l.fn.closed)
