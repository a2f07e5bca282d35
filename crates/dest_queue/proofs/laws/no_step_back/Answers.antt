use Rattle.std.proofs.Common.{◌≡◌, ◌+◌, ◌-◌, arith}
use Rattle.dest_queue.specs.EarlierCounts.{sum}
use Rattle.dest_queue.proofs.laws.no_step_back.Goals as goal

pub returns : goal.returns
returns c = λ earlier last rest within balanced offered kept dropped.
    let same_offered : sum (sum earlier.offered last.offered) 0 ≡ sum earlier.offered last.offered = omega (arith, offered) in
    let same_kept : sum (sum earlier.kept last.kept) 0 ≡ sum earlier.kept last.kept = omega (arith, kept) in
    let same_dropped : sum (sum earlier.dropped last.dropped) 0 ≡ sum earlier.dropped last.dropped = omega (arith, dropped) in
    let same_taken : sum (sum earlier.kept last.kept - (rest + last.queued)) 0 ≡ sum (earlier.kept - rest) last.taken = omega (arith, within, balanced, kept) in
    let same_queued : sum (rest + last.queued) 0 ≡ sum rest last.queued = omega arith in
    λ i. record {
      offered = same_offered i;
      kept = same_kept i;
      dropped = same_dropped i;
      taken = same_taken i;
      queued = same_queued i;
      seals = 0;
    }
