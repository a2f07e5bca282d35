use Rattle.std.proofs.Common.{◌≡◌, ◌<◌, ℕ, slice_get, Some}
use Rattle.dest_queue.specs.declared.counts.Counts.{Counts}
use Rattle.queue_records.specs.Settling.{AreSums}
use Rattle.queue_records.proofs.sums.first_without_sums.Given as goal

-- the counts of the first are sums
abbrev pub invariant-loop-dest : goal.invariant-loop-dest
invariant-loop-dest l = (d : ℕ) (c : Counts) → d < l.dest → slice_get l.counts d ≡ Some c → AreSums l.doors l.outlets d c
