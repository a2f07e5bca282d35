use Rattle.std.proofs.Common.{◌≡◌, ◌≤◌, ◌+◌, ◌-◌, length, drop}
use Rattle.std.specs.List.{prefix_len}
use Rattle.line_text.specs.Field.{is_visible}
use Rattle.line_text.proofs.plain_line.visible_end.Given as goal

-- all bytes up to this one are above a space
abbrev pub invariant-loop-seen : goal.invariant-loop-seen
invariant-loop-seen l = record {
  len : l.at + prefix_len is_visible (drop l.at l.line) ≡ l.seen + prefix_len is_visible (drop l.seen l.line);
  within : l.seen ≤ length l.line;
}

abbrev pub decreases-loop-seen : goal.decreases-loop-seen
decreases-loop-seen l = length l.line - l.seen
