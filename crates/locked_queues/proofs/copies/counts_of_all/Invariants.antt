use Rattle.std.proofs.Common.{◌≡◌}
use Rattle.std.specs.Vec.{vec_len, vec_capacity}
use Rattle.locked_queues.proofs.copies.counts_of_all.Given as goal

-- the counts of the first queues are there
abbrev pub invariant-loop-dest : goal.invariant-loop-dest
invariant-loop-dest g l = record {
  counts : vec_len l.counts ≡ l.dest;
  room : vec_capacity l.counts ≡ vec_capacity l.initial.counts;
  locks : vec_len l.locks ≡ vec_len l.initial.locks;
}
