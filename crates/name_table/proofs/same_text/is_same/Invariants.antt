use Rattle.std.proofs.Common.{◌≡◌, ◌+◌, ◌-◌, ◌≤◌, take}
use Rattle.name_table.proofs.same_text.is_same.Given as goal

-- what was seen is the same
abbrev pub invariant-loop-seen : goal.invariant-loop-seen
invariant-loop-seen l = record {
  same : take l.seen l.a ≡ take l.seen l.b;
  within : l.seen ≤ l.last + 15;
}

abbrev pub decreases-loop-seen : goal.decreases-loop-seen
decreases-loop-seen l = l.last - l.seen
