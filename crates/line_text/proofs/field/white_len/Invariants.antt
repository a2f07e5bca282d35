use Rattle.std.proofs.Common.{◌≡◌, ◌+◌, drop}
use Rattle.std.specs.List.{prefix_len}
use Rattle.relay_base.specs.White.{is_white}
use Rattle.line_text.proofs.field.white_len.Given as goal

-- all bytes before this one are white
abbrev pub invariant-loop-i : goal.invariant-loop-i
invariant-loop-i l = prefix_len is_white l.text ≡ l.i + prefix_len is_white (drop l.i l.text)
