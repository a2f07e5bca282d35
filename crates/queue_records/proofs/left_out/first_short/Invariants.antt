use Rattle.std.proofs.Common.{◌≡◌, ◌<◌, ℕ, slice_get, Some}
use Rattle.dest_queue.specs.declared.counts.Counts.{Counts}
use Rattle.queue_records.specs.Settling.{IsMet}
use Rattle.queue_records.proofs.left_out.first_short.Given as goal

-- the first are met
abbrev pub invariant-loop-dest : goal.invariant-loop-dest
invariant-loop-dest l = (d : ℕ) (c : Counts) → d < l.dest → slice_get l.counts d ≡ Some c → IsMet l.offers l.taken d c
