use Rattle.std.proofs.Common.{arith}
use Rattle.dest_queue.specs.declared.counts.Counts.{Counts}
use Rattle.queue_records.specs.Settling.{IsMet}
use Rattle.queue_records.proofs.Places.{each_more}
use Rattle.queue_records.proofs.left_out.first_short.Goals as goal

pub loop-dest-preserved : goal.loop-dest-preserved
loop-dest-preserved c =
    let none : Counts = record { offered = 0; kept = 0; dropped = 0; taken = 0; queued = 0; seals = 0 } in
    each_more (λ d (k : Counts). IsMet c.args.offers.now c.args.taken.now d k) c.args.counts.now c.loop-dest.dest none c.loop-dest-test.true c.loop-dest.invariant
    (record { unsealed = omega arith; offers = omega arith; taken = omega arith })
