use Rattle.std.proofs.Common.{◌≡◌, ◌≤◌, ◌+◌, ◌++◌, length, map}
use Rattle.std.specs.Vec.{vec_len, vec_capacity}
use Rattle.std.specs.Vec.Iter.{drain_items}
use Rattle.std.specs.VecDeque.{deque_len, deque_capacity}
use Rattle.dest_queue.specs.History.{points_queued}
use Rattle.dest_queue.specs.Step.{recorded_of}
use Rattle.dest_queue.proofs.base.share_points.Given as goal

-- the datapoints that moved, and those of the steps that are left, are all that were queued
abbrev pub invariant-loop-step : goal.invariant-loop-step
invariant-loop-step l = record {
  points : l.points.items ++ points_queued (map recorded_of (drain_items l.step-iterator))
      ≡ l.initial.points.items ++ points_queued (map recorded_of (drain_items l.initial.step-iterator));
  room : deque_len l.points + length (drain_items l.step-iterator) ≤ deque_capacity l.points;
  room_for_dropped : vec_len l.dropped + length (drain_items l.step-iterator) ≤ vec_capacity l.dropped;
  capacity : deque_capacity l.points ≡ deque_capacity l.initial.points;
  dropped_capacity : vec_capacity l.dropped ≡ vec_capacity l.initial.dropped;
  can_next : (goal.iterator-loop-step).can_next l.step-iterator;
  is_finite : (goal.iterator-loop-step).is_finite l.step-iterator;
}
