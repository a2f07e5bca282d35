use Rattle.std.proofs.Common.{◌≡◌, ◌<◌, ℕ, map, take}
use Rattle.common_orders.specs.CommonOrder.{times}
use Rattle.common_orders.specs.OrderSearch.{times_behind}
use Rattle.common_orders.specs.OrderSearch.{times_first}
use Rattle.common_orders.proofs.search.firsts.Given as goal

-- what is ready waits for no list, and so is what begins one of the first lists and waits for none
abbrev pub invariant-loop-place : goal.invariant-loop-place
invariant-loop-place l = record {
  first : (x : ℕ) → 0 < times x l.ready.items → times_behind x (map (λ list. list.now) l.left) ≡ 0;
  all : (x : ℕ) → times_behind x (map (λ list. list.now) l.left) ≡ 0 → 0 < times_first x (take l.place (map (λ list. list.now) l.left)) → 0 < times x l.ready.items;
}
