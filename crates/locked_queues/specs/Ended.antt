-- What queues leave at their end.
use Rattle.std.specs.Prelude.{ℕ, ◌≡◌, List, map, All}
use Rattle.line_text.specs.Datapoint.{Datapoint}
use Rattle.dest_queue.specs.Balance.{IsBalanced}
use Rattle.dest_queue.specs.Counts.{counts_of}
use Rattle.dest_queue.specs.History.{Replays}
use Rattle.dest_queue.specs.Queue.{empty_queue}
use Rattle.dest_queue.specs.RecordedStep.{RecordedStep}
use Rattle.dest_queue.specs.SizedQueue.{SizedQueue}
use Rattle.dest_queue.specs.declared.counts.Counts.{Counts}

-- a queue of this size and number of readers, to which its history leads: from the empty queue, if none was sealed
pub record IsReached (size readers : ℕ) (q : SizedQueue) : Type 0 where
  pub sized : q.size ≡ size
  pub replays : Replays size q.base q.history q.queue
  pub balanced : IsBalanced size q.queue
  pub begun : (counts_of q.queue).seals ≡ 0 → q.base ≡ empty_queue readers

-- these are the counts, the datapoints and the history of such a queue
pub record IsLeft (size readers : ℕ) (counts : Counts) (points : List Datapoint) (history : List RecordedStep) : Type 0 where
  pub queue : SizedQueue
  pub reached : IsReached size readers queue
  pub are_counts : counts ≡ counts_of queue.queue
  pub are_points : points ≡ queue.queue.points
  pub is_history : history ≡ queue.history

-- these are the counts, the datapoints and the histories of such queues, each at its place
pub record AreLeft (size readers : ℕ) (counts : List Counts) (points : List (List Datapoint))
    (histories : List (List RecordedStep)) : Type 0 where
  pub queues : List SizedQueue
  pub reached : All (IsReached size readers) queues
  pub are_counts : counts ≡ map (λ q. counts_of q.queue) queues
  pub are_points : points ≡ map (λ q. q.queue.points) queues
  pub are_histories : histories ≡ map (λ q. q.history) queues
