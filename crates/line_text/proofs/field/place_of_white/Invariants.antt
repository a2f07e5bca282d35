use Rattle.std.proofs.Common.{◌≡◌, ◌+◌, drop}
use Rattle.std.specs.List.{position_or_len}
use Rattle.relay_base.specs.White.{is_white}
use Rattle.line_text.proofs.field.place_of_white.Given as goal

-- no byte before this one is white
abbrev pub invariant-loop-i : goal.invariant-loop-i
invariant-loop-i l = position_or_len is_white l.text ≡ l.i + position_or_len is_white (drop l.i l.text)
