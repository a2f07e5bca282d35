use Rattle.std.proofs.Common.{◌≡◌, take, sum_by, slice_index}
use Rattle.queue_records.proofs.sums.drops_at.Given as goal

-- the sum of the first records
abbrev pub invariant-loop-door : goal.invariant-loop-door
invariant-loop-door l = l.sum ≡ sum_by (λ r. slice_index r.drops.items l.dest) (take l.door-index l.doors)
