use Rattle.std.proofs.Common.{refl}
use Rattle.dest_queue.specs.declared.counts.Counts.{Counts}
use Rattle.queue_records.specs.Settling.{AreSums}
use Rattle.queue_records.proofs.Places.{each_more}
use Rattle.queue_records.proofs.sums.first_without_sums.Goals as goal

pub loop-dest-preserved : goal.loop-dest-preserved
loop-dest-preserved c =
    let none : Counts = record { offered = 0; kept = 0; dropped = 0; taken = 0; queued = 0; seals = 0 } in
    each_more (λ d (k : Counts). AreSums c.args.doors.now c.args.outlets.now d k) c.args.counts.now c.loop-dest.dest none c.loop-dest-test.true c.loop-dest.invariant (c.if-not-are_sums.ensures.0 refl)
