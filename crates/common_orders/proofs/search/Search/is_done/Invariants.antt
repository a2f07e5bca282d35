use Rattle.std.proofs.Common.{map, take}
use Rattle.common_orders.specs.OrderSearch.{AreAllEmpty}
use Rattle.common_orders.proofs.search.Search.is_done.Given as goal

-- the first lists are empty
abbrev pub invariant-loop-place : goal.invariant-loop-place
invariant-loop-place l = AreAllEmpty (take l.place (map (λ list. list.now) l.self.left.items))
