use Rattle.std.proofs.Common.{◌≡◌, ◌+◌, ℕ, take}
use Rattle.common_orders.specs.CommonOrder.{times}
use Rattle.common_orders.specs.OrderSearch.{waits_at}
use Rattle.common_orders.proofs.waits.raise_all.Given as goal

-- the first numbers are counted
abbrev pub invariant-loop-place : goal.invariant-loop-place
invariant-loop-place l = (x : ℕ) → waits_at l.waits x ≡ waits_at l.initial.waits x + times x (take l.place l.numbers)
