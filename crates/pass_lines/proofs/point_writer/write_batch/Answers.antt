use Rattle.std.proofs.Common.{ap, ◌∙◌}
use Rattle.dest_writer.specs.Writer.{WriterState}
use Rattle.pass_lines.proofs.BatchLemmas.{sends-more, sends-part}
use Rattle.pass_lines.proofs.point_writer.write_batch.Goals as goal

pub returns-in-Idle-clause-part : goal.returns-in-Idle-clause-part
returns-in-Idle-clause-part g c =
    sends-part c.args.writer.now.writer c.drive_over.new.self.writer _ _
    (sends-more c.leaves_the_rest.ensures c.args.writer.now.writer c.loop-drive.writer.writer c.drive_over.new.self.writer _ _ _ _ c.loop-drive.invariant.written c.drive_over.ensures.drives.writes)

pub returns-in-Failed-clause-part : goal.returns-in-Failed-clause-part
returns-in-Failed-clause-part g c =
    sends-part c.args.writer.now.writer c.drive_over.new.self.writer _ _
    (sends-more c.leaves_the_rest.ensures c.args.writer.now.writer c.loop-drive.writer.writer c.drive_over.new.self.writer _ _ _ _ c.loop-drive.invariant.written c.drive_over.ensures.drives.writes)

pub loop-drive-preserved : goal.loop-drive-preserved
loop-drive-preserved g c =
    let held = c.loop-drive.invariant in
    let writes = c.drive_over.ensures.drives.writes in
    record {
      written = sends-more c.leaves_the_rest.ensures c.args.writer.now.writer c.loop-drive.writer.writer c.drive_over.new.self.writer _ _ _ _ held.written writes;
      up = ap (λ (w : WriterState). w.up) writes.step ∙ held.up;
      limit = c.drive_over.ensures.limit ∙ held.limit;
    }

pub returns-clause-part : goal.returns-clause-part
returns-clause-part g c = sends-part c.args.writer.now.writer c.loop-drive.writer.writer _ _ c.loop-drive.invariant.written
