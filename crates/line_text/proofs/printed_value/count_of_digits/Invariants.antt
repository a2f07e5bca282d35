use Rattle.std.proofs.Common.{◌-◌, ◌<◌, ◌≤◌}
use Rattle.line_text.specs.Value.{units_of_one}
use Rattle.line_text.proofs.PrintLemmas.{HasCounted}
use Rattle.line_text.proofs.printed_value.count_of_digits.Given as goal

-- the first digits are counted, and the rest is below 1
abbrev pub invariant-loop-left : goal.invariant-loop-left
invariant-loop-left l = record {
  counted : HasCounted l.fraction l.places l.left;
  small : l.left < units_of_one;
  places : l.places ≤ 10;
}

abbrev pub decreases-loop-left : goal.decreases-loop-left
decreases-loop-left l = 10 - l.places
