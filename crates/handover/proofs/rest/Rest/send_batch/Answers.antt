use Rattle.std.proofs.Common.{◌≡◌, ◌++◌, sym, ◌∙◌}
use Rattle.line_text.specs.Print.{printed_lines}
use Rattle.dest_writer.specs.Writer.{bytes_left}
use Rattle.handover.specs.Rest.{left_text}
use Rattle.handover.proofs.RestLemmas.{took-nothing, took-then, took-written}
use Rattle.handover.proofs.rest.Rest.send_batch.Goals as goal

-- a batch is taken in hand, and then some of it is written
pub returns-clause-took : goal.returns-clause-took
returns-clause-took g c =
    let same : left_text c.take_batch.new.self ≡ bytes_left c.self.inside.writer.writer ++ printed_lines c.self.inside.queued = cc in
    took-then _ _ _ _ _ _ (took-nothing _ _ _ (sym c.take_batch.ensures.text ∙ same)) (took-written c.drive_gathered.result.wrote _ _ c.self.inside.queued _ _ c.drive_gathered.ensures.drives.writes)
