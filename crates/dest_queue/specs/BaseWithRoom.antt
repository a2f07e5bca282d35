-- The queue at a seal, and the room that there is for datapoints.
use Rattle.std.specs.Prelude.{ℕ}
use Rattle.dest_queue.specs.Queue.{Queue}

pub record BaseWithRoom : Type 0 where
  pub queue : Queue
  -- how many datapoints there is room for
  pub room : ℕ
