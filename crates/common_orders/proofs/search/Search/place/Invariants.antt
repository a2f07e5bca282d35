use Rattle.std.proofs.Common.{◌≡◌, ◌+◌, ◌≤◌, ◌<◌, ◌++◌, ℕ, length, map, take, drop}
use Rattle.std.specs.Bool.{OnFalse, OnTrue}
use Rattle.std.specs.Vec.{vec_len}
use Rattle.common_orders.specs.CommonOrder.{times, times_in_all}
use Rattle.common_orders.specs.OrderSearch.{all_left, all_uncover, all_without_first, times_behind, waits_at}
use Rattle.common_orders.proofs.search.Search.place.Given as goal

-- the first lists have removed the number
abbrev pub invariant-loop-place : goal.invariant-loop-place
invariant-loop-place l = record {
  left : map (λ list. list.now) l.self.left.items
      ≡ all_without_first l.number (take l.place (map (λ list. list.now) l.initial.self.left.items)) ++ drop l.place (map (λ list. list.now) l.initial.self.left.items);
  count : vec_len l.self.left ≡ vec_len l.initial.self.left;
  waits : (x : ℕ) → waits_at l.self.waits x + all_uncover l.number x (take l.place (map (λ list. list.now) l.initial.self.left.items))
      ≡ times_behind x (map (λ list. list.now) l.initial.self.left.items);
  ready_before : (x : ℕ) → times x l.initial.self.ready.items ≤ times x l.self.ready.items;
  ready_first : (x : ℕ) → times x l.initial.self.ready.items < times x l.self.ready.items → waits_at l.self.waits x ≡ 0;
  ready_all : (x : ℕ) → 0 < times_behind x (map (λ list. list.now) l.initial.self.left.items) → waits_at l.self.waits x ≡ 0 → 0 < times x l.self.ready.items;
  fewer : length l.self.ready.items + all_left (all_without_first l.number (take l.place (map (λ list. list.now) l.initial.self.left.items)))
      ≤ length l.initial.self.ready.items + all_left (take l.place (map (λ list. list.now) l.initial.self.left.items));
  there : OnTrue l.there (0 < times_in_all l.number (map (λ list. list.now) l.initial.self.left.items));
  nowhere : OnFalse l.there (all_without_first l.number (take l.place (map (λ list. list.now) l.initial.self.left.items)) ≡ take l.place (map (λ list. list.now) l.initial.self.left.items));
}
