-- A destination of a write loop.
use Rattle.std.specs.Prelude.{ℕ, ◌≡◌, ◌≤◌, [], Option}
use Rattle.dest_queue.specs.PointsInHand.{PointsInHand}
use Rattle.dest_writer.specs.Writer.{WriterState, SizedWriter}
use Rattle.dest_writer.specs.declared.counting.Counting.{Counting}
use Rattle.dest_writer.specs.declared.driven.Driven.{Driven}
use Rattle.mio_loops.specs.WriterLog.{WriterLog}
use Rattle.mio_loops.specs.WriterSteps.{HoldsOnlyUnwritten}

pub record OutgoingState (W : Type 0) : Type 0 where
  -- how many datapoints a batch may have
  pub limit : ℕ
  pub writer : WriterState
  -- the connection with the counts of its calls, if any
  pub sink : Option (Counting W)
  pub log : WriterLog
  -- how its last drive ended; none if it was not driven yet
  pub last : Option Driven

-- a destination's writer, and the hand that is lent to the supply
pub record IsSoundOutgoing (limit : ℕ) (sized : SizedWriter) (lent : PointsInHand) : Type 0 where
  pub least : 1 ≤ limit
  pub most : limit ≤ 10000
  pub fits : sized.limit ≡ limit
  pub empty : lent.points ≡ []
  pub room : limit ≤ lent.room
  pub unwritten : HoldsOnlyUnwritten sized.writer
