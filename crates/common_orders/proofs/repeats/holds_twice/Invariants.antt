use Rattle.std.proofs.Common.{◌≡◌, ◌≤◌, ℕ, take, nat_eq, nat_lt}
use Rattle.std.specs.HashSet.{contains}
use Rattle.common_orders.specs.CommonOrder.{times}
use Rattle.common_orders.proofs.repeats.holds_twice.Given as goal

-- the set has the first numbers, and each of them is there once
abbrev pub invariant-loop-place : goal.invariant-loop-place
invariant-loop-place l = record {
  seen : (x : ℕ) → contains nat_eq l.seen x ≡ nat_lt 0 (times x (take l.place l.numbers));
  once : (x : ℕ) → times x (take l.place l.numbers) ≤ 1;
}
