-- A step of a queue with its answer, as a history records it.
use Rattle.std.specs.Prelude.{ℕ}
use Rattle.line_text.specs.Datapoint.{Datapoint}
use Rattle.dest_queue.specs.declared.offer.Kept.{Kept}

pub data RecordedStep : Type 0 where
  -- a reader's datapoint was queued or dropped
  Offered : (reader : ℕ) (number : ℕ) (point : Datapoint) (kept : Kept) → RecordedStep
  -- how many datapoints a take with this limit handed over
  Took : (limit : ℕ) (taken : ℕ) → RecordedStep
