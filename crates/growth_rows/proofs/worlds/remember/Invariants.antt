use Rattle.std.proofs.Common.{◌≡◌}
use Rattle.growth_rows.proofs.worlds.remember.Given as goal

-- the plan routes as at the start
abbrev pub invariant-loop-line : goal.invariant-loop-line
invariant-loop-line l =
    l.plan ≡ l.fn.plan
