use Rattle.std.proofs.Common.{◌≡◌, ◌+◌, ◌<◌, ◌^◌, ◌++◌, length, take}
use Rattle.line_text.specs.Line.{points, bad_count, count_of}
use Rattle.line_text.specs.Datagram.{lines}
use Rattle.line_text.proofs.datagrams.read_lines.Given as goal

-- what was read, and what is read of what is left, is what is read of all
abbrev pub invariant-loop-line : goal.invariant-loop-line
invariant-loop-line g l =
    record {
      gained : l.out.items ++ points (lines l.text l.moment) ≡ l.fn.out.items ++ points (lines l.fn.text l.moment);
      bad : count_of (l.bad_lines + bad_count (lines l.text l.moment)) ≡ count_of (bad_count (lines l.fn.text l.moment));
      count : l.bad_lines < 2 ^ 64;
      kept : take (length l.fn.out.items) l.out.items ≡ l.fn.out.items;
    }

abbrev pub decreases-loop-line : goal.decreases-loop-line
decreases-loop-line g l = length l.text
