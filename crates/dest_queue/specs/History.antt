-- Histories: which lists of recorded steps lead from one queue to another, and what they queued and
-- took.
use Rattle.std.specs.Prelude.{ℕ, ◌≡◌, ◌+◌, ◌<◌, ◌==◌, if◌then◌else◌, List, [], ◌∷◌, length}
use Rattle.line_text.specs.Datapoint.{Datapoint}
use Rattle.dest_queue.specs.Queue.{Queue, kept_of, batch, queue_after_offer, queue_after_take}
use Rattle.dest_queue.specs.Offer.{IsInTurn}
use Rattle.dest_queue.specs.RecordedStep.{RecordedStep, Offered, Took}
use Rattle.dest_queue.specs.declared.offer.Kept.TheVariants.{Queued, Dropped}

-- the queue allows the step and gives the recorded answer; a take hands over at least one datapoint
abbrev pub IsDone : ℕ → Queue → RecordedStep → Type 0
IsDone size q (Offered reader number point kept) =
    IsInTurn q reader number × (kept ≡ kept_of size q)
IsDone size q (Took limit taken) = (taken ≡ length (batch limit q)) × (0 < taken)

-- the queue after a recorded step
abbrev pub queue_after_recorded : ℕ → Queue → RecordedStep → Queue
queue_after_recorded size q (Offered reader number point kept) =
    queue_after_offer size reader point q
queue_after_recorded size q (Took limit taken) = queue_after_take limit q

-- the recorded steps lead from one queue to the other
abbrev pub Replays : ℕ → Queue → List RecordedStep → Queue → Type 0
Replays size q [] end = q ≡ end
Replays size q (step ∷ steps) end =
    IsDone size q step × Replays size (queue_after_recorded size q step) steps end

-- the datapoints that the recorded steps queued, in order
abbrev pub points_queued : List RecordedStep → List Datapoint
points_queued [] = []
points_queued (Offered reader number point Queued ∷ steps) = point ∷ points_queued steps
points_queued (Offered reader number point Dropped ∷ steps) = points_queued steps
points_queued (Took limit taken ∷ steps) = points_queued steps

-- how many datapoints the recorded steps handed over
abbrev pub count_taken : List RecordedStep → ℕ
count_taken [] = 0
count_taken (Offered reader number point kept ∷ steps) = count_taken steps
count_taken (Took limit taken ∷ steps) = taken + count_taken steps

-- the numbers of a reader's recorded offers, in order
abbrev pub numbers_recorded : ℕ → List RecordedStep → List ℕ
numbers_recorded reader [] = []
numbers_recorded reader (Offered r number point kept ∷ steps) =
    if r == reader then number ∷ numbers_recorded reader steps else numbers_recorded reader steps
numbers_recorded reader (Took limit taken ∷ steps) = numbers_recorded reader steps
