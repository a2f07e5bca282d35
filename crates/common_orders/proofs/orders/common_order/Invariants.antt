use Rattle.std.proofs.Common.{◌+◌, ◌++◌, ℕ, List, length, map}
use Rattle.common_orders.specs.CommonOrder.{AreAllWithin, IsCommonOrder}
use Rattle.common_orders.specs.OrderSearch.{all_left, HasWaits, HasReady}
use Rattle.common_orders.proofs.orders.common_order.Given as goal

-- an order of what is left completes what was placed, and what is left is in each order of the lists
abbrev pub invariant-loop-number : goal.invariant-loop-number
invariant-loop-number l = record {
  completes : (more : List ℕ) → IsCommonOrder (map (λ list. list.now) l.search.left.items) more → IsCommonOrder (map (λ list. list.items) l.lists) (l.order.items ++ more);
  remains : (order : List ℕ) → AreAllWithin (map (λ list. list.items) l.lists) order → AreAllWithin (map (λ list. list.now) l.search.left.items) order;
  waits : HasWaits (map (λ list. list.now) l.search.left.items) l.search.waits;
  ready : HasReady (map (λ list. list.now) l.search.left.items) l.search.ready.items;
}

abbrev pub decreases-loop-number : goal.decreases-loop-number
decreases-loop-number l = length l.search.ready.items + all_left (map (λ list. list.now) l.search.left.items)
