use Rattle.std.proofs.Common.{◌≡◌, ℕ, map, take}
use Rattle.common_orders.specs.OrderSearch.{waits_at, times_behind}
use Rattle.common_orders.proofs.search.raise_rests.Given as goal

-- the first lists are counted
abbrev pub invariant-loop-place : goal.invariant-loop-place
invariant-loop-place l = (x : ℕ) → waits_at l.waits x ≡ times_behind x (take l.place (map (λ list. list.now) l.left))
