use Rattle.std.proofs.Common.{map}
use Rattle.common_orders.specs.CommonOrder.{HoldEachOnce}
use Rattle.common_orders.proofs.repeats.first_repeat.Given as goal

-- the first lists hold no number twice
abbrev pub invariant-loop-place : goal.invariant-loop-place
invariant-loop-place l = HoldEachOnce l.place (map (λ list. list.items) l.lists)
