use Rattle.std.proofs.Common.{◌≡◌, ℕ, List, ◌++◌, true}
use Rattle.std.specs.Io.KnownBytes.{Appends}
use Rattle.dest_writer.specs.Writer.{bytes_left}
use Rattle.pass_lines.proofs.point_writer.write_batch.Given as goal

-- the bytes that were written, and those that are left, are those that were left at first
abbrev pub invariant-loop-drive : goal.invariant-loop-drive
invariant-loop-drive g l = record {
  written : (done : List ℕ) × (bytes_left l.fn.writer.writer ≡ done ++ bytes_left l.writer.writer)
      × Appends (g.W.Write.contents l.fn.output) (g.W.Write.contents l.output) done;
  up : l.writer.writer.up ≡ true;
  limit : l.writer.limit ≡ l.fn.writer.limit;
}
