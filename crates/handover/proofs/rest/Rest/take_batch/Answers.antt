use Rattle.std.proofs.Common.{◌≡◌, ◌++◌, sym, ◌∙◌}
use Rattle.line_text.specs.Print.{printed_lines}
use Rattle.dest_writer.specs.Writer.{bytes_left}
use Rattle.handover.proofs.RestLemmas.{text-filled}
use Rattle.handover.proofs.rest.Rest.take_batch.Goals as goal

-- the next batch is in hand
pub returns-then-wants_batch-clause-text : goal.returns-then-wants_batch-clause-text
returns-then-wants_batch-clause-text c =
    let old : bytes_left c.self.inside.writer.writer ++ printed_lines c.self.inside.queued ≡ bytes_left c.args.self.now.writer ++ printed_lines c.args.self.now.queued = cc in
    rw (c.fill.ensures.step, c.take-taken.ensures.handed, c.take-taken.ensures.left) (text-filled c.self.inside.writer.writer c.self.inside.limit c.self.inside.queued (sym c.if-wants_batch.ensures) ∙ old)
