use Rattle.std.proofs.Common.{ℕ, List, subst}
use Rattle.std.specs.Prelude.{OnOk}
use Rattle.std.specs.Io.KnownBytes.{Appends}
use Rattle.relay_files.specs.Output.{GrowsByPart}
use Rattle.pass_lines.proofs.BatchLemmas.{line-left}
use Rattle.pass_lines.proofs.point_writer.PointWriter.write.Goals as goal

pub returns-clause-ok : goal.returns-clause-ok
returns-clause-ok g c =
    subst (λ (line : List ℕ). OnOk c.write_batch.result (Appends (g.W.Write.contents c.args.output.now) (g.W.Write.contents c.write_batch.new.output) line))
    (line-left c.hand_over.new.self.writer.writer c.args.point c.in_ok-hand_over.ensures) c.write_batch.ensures.ok

pub returns-clause-part : goal.returns-clause-part
returns-clause-part g c =
    subst (GrowsByPart (g.W.Write.contents c.args.output.now) (g.W.Write.contents c.write_batch.new.output))
    (line-left c.hand_over.new.self.writer.writer c.args.point c.in_ok-hand_over.ensures) c.write_batch.ensures.part
