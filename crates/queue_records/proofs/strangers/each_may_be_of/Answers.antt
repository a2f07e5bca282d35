use Rattle.std.proofs.Common.{refl, subst}
use Rattle.queue_records.proofs.Places.{each_more}
use Rattle.queue_records.proofs.strangers.each_may_be_of.Goals as goal

pub loop-record-preserved : goal.loop-record-preserved
loop-record-preserved g c =
    each_more (λ i (r : g.row.R.Denot). g.R.SeatRecord.is_of c.args.name c.args.dests c.args.seats r) c.args.records.now c.loop-record.record-index c.record-item.result c.loop-record-test.true c.loop-record.invariant
    (subst (λ (r : g.row.R.Denot). g.R.SeatRecord.is_of c.args.name c.args.dests c.args.seats r) c.record-item.is (c.if-not-may_be_of.ensures.all refl))
