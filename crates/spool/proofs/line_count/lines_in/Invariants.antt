use Rattle.std.proofs.Common.{◌≡◌, ◌==◌, ◌+◌, length}
use Rattle.std.specs.List.{count_by}
use Rattle.relay_base.specs.Ascii.{newline}
use Rattle.spool.proofs.line_count.lines_in.Given as goal

abbrev pub invariant-loop-left : goal.invariant-loop-left
invariant-loop-left l = l.lines + count_by (λ b. b == newline) l.left ≡ count_by (λ b. b == newline) l.bytes

abbrev pub decreases-loop-left : goal.decreases-loop-left
decreases-loop-left l = length l.left
