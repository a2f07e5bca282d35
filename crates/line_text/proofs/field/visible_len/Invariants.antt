use Rattle.std.proofs.Common.{◌≡◌, ◌≤◌, ◌+◌, ◌-◌, length, drop}
use Rattle.std.specs.List.{position_or_len}
use Rattle.relay_base.specs.White.{is_white}
use Rattle.line_text.proofs.field.visible_len.Given as goal

-- no byte before this one is white
abbrev pub invariant-loop-seen : goal.invariant-loop-seen
invariant-loop-seen l = record {
  len : position_or_len is_white l.text ≡ l.seen + position_or_len is_white (drop l.seen l.text);
  within : l.seen ≤ length l.text;
}

abbrev pub decreases-loop-seen : goal.decreases-loop-seen
decreases-loop-seen l = length l.text - l.seen
