-- What the fields of a `Base` mean, and what holds for them.
use Rattle.std.specs.Prelude.{◌*◌, ◌≤◌, length, drop}
use Rattle.std.specs.Vec.{vec_capacity}
use Rattle.std.specs.VecDeque.{deque_capacity}
use Rattle.dest_queue.specs.Queue.{Queue, most_steps}
use Rattle.dest_queue.specs.BaseWithRoom.{BaseWithRoom}
use Rattle.dest_queue.specs.Tally.{tallied_queue}
use Rattle.dest_queue.specs.declared.base.Base.TheInside.{Inside}

-- the first datapoints had left, and later steps free them
abbrev pub base_queue_of : Inside → Queue
base_queue_of a =
    tallied_queue (drop a.dead a.points.items) a.tally (most_steps * a.seals)

abbrev pub base_with_room : Inside → BaseWithRoom
base_with_room a = record { queue = base_queue_of a; room = deque_capacity a.points }

pub record IsSoundBase (a : Inside) : Type 0 where
  -- what had left is still there
  pub dead : a.dead ≤ length a.points.items
  -- each step of a full history may have a datapoint to free
  pub room_for_dropped : most_steps ≤ vec_capacity a.dropped
