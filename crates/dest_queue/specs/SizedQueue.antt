-- A queue with its history.
use Rattle.std.specs.Prelude.{ℕ, ◌≡◌, ◌==◌, if◌then◌else◌, List, [], ◌∷◌, ◌++◌, length}
use Rattle.line_text.specs.Datapoint.{Datapoint}
use Rattle.dest_queue.specs.Queue.{Queue, kept_of, most_steps, queue_after_offer}
use Rattle.dest_queue.specs.RecordedStep.{RecordedStep, Offered}
use Rattle.dest_queue.specs.declared.offer.Kept.{Kept}

pub record SizedQueue : Type 0 where
  -- how many datapoints may be queued
  pub size : ℕ
  pub queue : Queue
  -- the queue at the last seal, and the steps since then
  pub base : Queue
  pub history : List RecordedStep

-- the base and the history that the next recorded step finds: a full history is sealed first
abbrev pub base_before_step : SizedQueue → Queue
base_before_step q = if length q.history == most_steps then q.queue else q.base

abbrev pub history_before_step : SizedQueue → List RecordedStep
history_before_step q = if length q.history == most_steps then [] else q.history

-- an offer of the queue machine was made with this answer, and recorded
pub record RecordsOffer (reader number : ℕ) (point : Datapoint) (kept : Kept) (old new : SizedQueue) : Type 0 where
  pub answer : kept ≡ kept_of old.size old.queue
  pub step : new.queue ≡ queue_after_offer old.size reader point old.queue
  pub size : new.size ≡ old.size
  pub base : new.base ≡ base_before_step old
  pub history : new.history ≡ history_before_step old ++ Offered reader number point kept ∷ []
