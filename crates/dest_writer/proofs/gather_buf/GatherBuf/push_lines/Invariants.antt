use Rattle.std.proofs.Common.{◌≡◌, ◌++◌, take}
use Rattle.line_text.specs.Print.{printed_lines}
use Rattle.dest_writer.proofs.gather_buf.GatherBuf.push_lines.Given as goal

-- the lines so far are behind the others
abbrev pub invariant-loop-point : goal.invariant-loop-point
invariant-loop-point l = record {
  count : l.count ≡ l.point-index;
  bytes : l.self.bytes ≡ l.fn.self.bytes ++ printed_lines (take l.point-index l.points);
}
