use Rattle.std.proofs.Common.{◌≡◌, ◌==◌, take}
use Rattle.std.specs.List.{count_by}
use Rattle.relay_base.specs.Ascii.{newline}
use Rattle.spool.proofs.line_count.lines_in_block.Given as goal

abbrev pub invariant-loop-byte : goal.invariant-loop-byte
invariant-loop-byte l = l.lines ≡ count_by (λ b. b == newline) (take l.byte-index l.block)
