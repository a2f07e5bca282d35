use Rattle.std.proofs.Common.{◌<◌, ℕ}
use Rattle.queue_records.specs.Strangers.{HasSeat}
use Rattle.queue_records.proofs.strangers.has_seats.Given as goal

-- there are records of the first seats
abbrev pub invariant-loop-seat : goal.invariant-loop-seat
invariant-loop-seat g l = (k : ℕ) → k < l.seat → HasSeat g.R.SeatRecord.seat_of k l.records
