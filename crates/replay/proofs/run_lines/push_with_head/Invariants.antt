use Rattle.std.proofs.Common.{◌≡◌, ◌++◌, true, drop}
use Rattle.replay.specs.RunText.{text_lines}
use Rattle.replay.proofs.run_lines.push_with_head.Given as goal

-- the bytes so far and those that are left, each line after its head, are those of all
abbrev pub invariant-loop-place : goal.invariant-loop-place
invariant-loop-place l =
    l.text.items ++ text_lines l.head l.starts (drop l.place l.bytes) ≡ l.fn.text.items ++ text_lines l.head true l.bytes
