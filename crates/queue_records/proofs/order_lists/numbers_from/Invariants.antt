use Rattle.std.proofs.Common.{◌≡◌}
use Rattle.std.specs.List.{range_with_len}
use Rattle.std.specs.Vec.{vec_len, vec_capacity}
use Rattle.queue_records.proofs.order_lists.numbers_from.Given as goal

-- the numbers of the first places
abbrev pub invariant-loop-place : goal.invariant-loop-place
invariant-loop-place l = record {
  items : l.numbers.items ≡ range_with_len l.first l.place;
  numbers : vec_len l.numbers ≡ l.place;
  room : vec_capacity l.numbers ≡ vec_capacity l.initial.numbers;
}
