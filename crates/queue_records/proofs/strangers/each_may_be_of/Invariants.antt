use Rattle.std.proofs.Common.{◌≡◌, ◌<◌, ℕ, slice_get, Some}
use Rattle.queue_records.proofs.strangers.each_may_be_of.Given as goal

-- the first records may be
abbrev pub invariant-loop-record : goal.invariant-loop-record
invariant-loop-record g l = (i : ℕ) (r : g.row.R.Denot) → i < l.record-index → slice_get l.records i ≡ Some r → g.R.SeatRecord.is_of l.name l.dests l.seats r
