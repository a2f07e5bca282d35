use Rattle.std.proofs.Common.{refl}
use Rattle.queue_records.specs.Strangers.{IsTakeOf}
use Rattle.queue_records.specs.declared.taken_batch.TakenBatch.{TakenBatch}
use Rattle.queue_records.proofs.Places.{each_more}
use Rattle.queue_records.proofs.strangers.are_takes_of.Goals as goal

pub loop-entry-preserved : goal.loop-entry-preserved
loop-entry-preserved c =
    each_more (λ i (e : TakenBatch). IsTakeOf c.args.dests c.args.senders c.args.sender e) c.args.takes.now c.loop-entry.entry-index _ c.loop-entry-test.true c.loop-entry.invariant
    (c.if-not-is_take_of.ensures.all refl)
