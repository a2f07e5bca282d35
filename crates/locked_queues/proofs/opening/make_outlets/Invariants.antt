use Rattle.std.proofs.Common.{◌≡◌}
use Rattle.std.specs.List.{range_with_len}
use Rattle.std.specs.Vec.{vec_len, vec_capacity}
use Rattle.locked_queues.proofs.opening.make_outlets.Given as goal

-- a seat for each sender so far
abbrev pub invariant-loop-seat : goal.invariant-loop-seat
invariant-loop-seat g l = record {
  outlets : l.outlets.items ≡ range_with_len 0 l.seat;
  count : vec_len l.outlets ≡ l.seat;
  room : vec_capacity l.outlets ≡ vec_capacity l.initial.outlets;
  first : l.first.table_id ≡ l.initial.first.table_id;
}
