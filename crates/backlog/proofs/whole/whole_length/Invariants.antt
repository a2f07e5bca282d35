use Rattle.std.proofs.Common.{◌≡◌, ◌-◌, [], length, drop}
use Rattle.backlog.specs.Lines.{whole_lines}
use Rattle.backlog.proofs.whole.whole_length.Given as goal

-- the bytes passed so far, from the end, have no whole lines
abbrev pub invariant-loop-passed : goal.invariant-loop-passed
invariant-loop-passed l = whole_lines (drop (length l.text - l.passed) l.text) ≡ []
