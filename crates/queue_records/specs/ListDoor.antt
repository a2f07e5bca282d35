-- A door, or a supply, over queues of its own.
use Rattle.std.specs.Prelude.{ℕ, ◌≡◌, List, Some, slice_get}
use Rattle.line_text.specs.Datapoint.{Datapoint}
use Rattle.dest_queue.specs.Queue.{batch}
use Rattle.dest_queue.specs.SizedQueue.{SizedQueue}
use Rattle.queue_records.specs.Offers.{OffersMade}
use Rattle.queue_records.specs.Takes.{TakesMade}

pub record DoorWithQueues : Type 0 where
  pub made : OffersMade
  pub queues : List SizedQueue

pub record SupplyWithQueues : Type 0 where
  pub made : TakesMade
  pub queues : List SizedQueue

-- the datapoints are a batch of the queue of this destination
abbrev pub IsBatchAt : List SizedQueue → ℕ → ℕ → List Datapoint → Type 0
IsBatchAt queues dest limit points =
    (q : SizedQueue) → slice_get queues dest ≡ Some q → points ≡ batch limit q.queue
