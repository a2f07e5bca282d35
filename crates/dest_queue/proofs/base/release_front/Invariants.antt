use Rattle.std.proofs.Common.{◌≡◌, ◌+◌, drop}
use Rattle.std.specs.VecDeque.{deque_len, deque_capacity}
use Rattle.dest_queue.proofs.base.release_front.Given as goal

-- the first datapoints, this number of them, have left
abbrev pub invariant-loop : goal.invariant-loop
invariant-loop l = record {
  left : l.points.items ≡ drop l.counter l.initial.points.items;
  left_len : deque_len l.points + l.counter ≡ deque_len l.initial.points;
  capacity : deque_capacity l.points ≡ deque_capacity l.initial.points;
}
