use Rattle.std.proofs.Common.{sym, ◌∙◌}
use Rattle.std.specs.String.{string_bytes}
use Rattle.dest_queue.specs.Step.{recorded_of}
use Rattle.run_record.proofs.Recording.{take-records}
use Rattle.run_record.proofs.queue_step.make_take.Goals as goal

pub returns-clause-records : goal.returns-clause-records
returns-clause-records c =
    take-records c.args.world.now c.try_event.new.world c.args.limit (string_bytes c.args.text.now) c.args.dest (recorded_of c.args.step.now) c.in_ok-answer.answer
    c.counts-queued.result c.counts-queued.ensures (c.is_take.ensures c.if-not-is_take.false) (sym c.has_happened.ensures ∙ c.if-not-has_happened.false)
    c.in_ok-answer.ensures.applies
