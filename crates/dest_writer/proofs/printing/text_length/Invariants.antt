use Rattle.std.proofs.Common.{◌≡◌, ◌≤◌, ◌*◌, length, take}
use Rattle.line_text.specs.Print.{printed_lines, longest_printed}
use Rattle.dest_writer.proofs.printing.text_length.Given as goal

-- the bytes of the lines so far
abbrev pub invariant-loop-point : goal.invariant-loop-point
invariant-loop-point l = record {
  total : l.total ≡ length (printed_lines (take l.point-index l.points));
  short : l.total ≤ l.point-index * longest_printed;
}
