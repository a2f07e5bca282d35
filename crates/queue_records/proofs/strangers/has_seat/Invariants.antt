use Rattle.std.proofs.Common.{◌≡◌, ◌<◌, ℕ, slice_get, Some}
use Rattle.queue_records.proofs.strangers.has_seat.Given as goal

-- none of the first records is that of the seat
abbrev pub invariant-loop-record : goal.invariant-loop-record
invariant-loop-record g l = (i : ℕ) (r : g.row.R.Denot) → i < l.record-index → slice_get l.records i ≡ Some r → g.R.SeatRecord.seat_of r ≡ l.seat → ⊥
