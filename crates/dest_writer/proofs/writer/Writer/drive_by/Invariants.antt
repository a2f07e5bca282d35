use Rattle.std.proofs.Common.{◌≡◌, ◌<◌, ◌≤◌, ◌*◌}
use Rattle.dest_writer.specs.Gathered.{most_gathered}
use Rattle.dest_writer.specs.Drive.{HasDriven}
use Rattle.dest_writer.specs.Writer.{left}
use Rattle.dest_writer.proofs.writer.Writer.drive_by.Given as goal

-- so many writes were made, none of which blocked or failed, and some bytes are left
abbrev pub invariant-loop : goal.invariant-loop
invariant-loop g l = record {
  driven : HasDriven l.counter l.wrote l.fn.self.writer l.self.writer l.fn.counts l.counts (g.W.Write.contents l.fn.stream) (g.W.Write.contents l.stream);
  some : 0 < left l.self.writer;
  most : l.wrote ≤ l.counter * most_gathered;
  limit : l.self.limit ≡ l.fn.self.limit;
  fits : g.P.Portion.fits l.self.writer l.portion;
}
