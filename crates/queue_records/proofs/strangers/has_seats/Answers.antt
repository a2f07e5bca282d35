use Rattle.std.proofs.Common.{below_more, rules}
use Rattle.queue_records.specs.Strangers.{HasSeat}
use Rattle.queue_records.proofs.strangers.has_seats.Goals as goal

pub loop-seat-preserved : goal.loop-seat-preserved
loop-seat-preserved g c =
    below_more (λ k. HasSeat g.R.SeatRecord.seat_of k c.args.records.now) c.loop-seat.seat c.loop-seat.invariant
    (c.has_seat.ensures.all (search rules))
