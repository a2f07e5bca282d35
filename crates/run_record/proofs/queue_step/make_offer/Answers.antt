use Rattle.std.specs.String.{string_bytes}
use Rattle.dest_queue.specs.Step.{recorded_of}
use Rattle.run_record.proofs.Recording.{answered-happens, offer-records}
use Rattle.run_record.proofs.queue_step.make_offer.Goals as goal

pub returns-clause-records : goal.returns-clause-records
returns-clause-records c = λ limit.
    let step = recorded_of c.args.step.now in
    let answer = c.in_ok-answer.answer in
    let answered = c.is_answered.ensures c.if-not-is_answered.false in
    offer-records c.args.world.now c.try_event.new.world limit (string_bytes c.args.text.now) c.args.reader c.args.dest step answer
    (c.is_first.ensures c.if-not-is_first.false) answered (answered-happens step answer answered) c.in_ok-answer.ensures.applies
