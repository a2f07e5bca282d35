use Rattle.std.proofs.Common.{◌≡◌, take, sum_by, slice_index}
use Rattle.queue_records.proofs.sums.total_at.Given as goal

-- the sum of the first records
abbrev pub invariant-loop-record : goal.invariant-loop-record
invariant-loop-record g l = l.sum ≡ sum_by (λ r. slice_index (g.R.Totals.totals_of r) l.dest) (take l.record-index l.records)
