use Rattle.std.proofs.Common.{◌≡◌, ◌≤◌, length, map, take}
use Rattle.std.specs.Vec.{vec_len, vec_capacity}
use Rattle.common_orders.proofs.search.slices.Given as goal

-- the first lists
abbrev pub invariant-loop-place : goal.invariant-loop-place
invariant-loop-place l = record {
  left : map (λ list. list.now) l.left.items ≡ take l.place (map (λ list. list.items) l.lists);
  count : vec_len l.left ≡ l.place;
  room : length l.lists ≤ vec_capacity l.left;
}
