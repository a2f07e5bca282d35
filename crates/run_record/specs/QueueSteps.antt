-- The steps of queues: those of histories in an order, and those that queues record in a run.
use Rattle.std.specs.Prelude.{ℕ, ◌≡◌, ◌/◌, ◌%◌, ◌==◌, nat_lt, if◌then◌else◌, List, [], ◌∷◌, length, map, filter, take, flat_map, slice_get, slice_index, Option, Some, None}
use Rattle.std.specs.List.{filter_map}
use Rattle.std.proofs.Common.{Vec, Global}
use Rattle.dest_queue.specs.Queue.{batch, kept_of, most_steps}
use Rattle.dest_queue.specs.RecordedStep.{RecordedStep, Offered, Took}
use Rattle.dest_queue.specs.Step.{recorded_of}
use Rattle.dest_queue.specs.declared.step.Step.{Step}
use Rattle.queue_records.specs.Numbered.{StepAt}
use Rattle.reader_core.specs.Configuration.{Configuration}
use Rattle.reader_core.specs.Kinds.{relay_reading}
use Rattle.relay_core.specs.Destination.{Destination, Act, Taken, Connected, Written, Lost}
use Rattle.relay_core.specs.Destination.{Offered as OfferedAct}
use Rattle.relay_core.specs.Run.{Run, Deed, all_deeds, start_of}
use Rattle.relay_core.specs.World.{RunEvent, Offer, Take}

-- ---- of histories

abbrev pub step_there : ℕ → Option Step → Option StepAt
step_there dest None = None
step_there dest (Some step) = Some (record { dest = dest; step = recorded_of step })

abbrev pub step_at : ℕ → ℕ → Option (Vec Step Global) → Option StepAt
step_at dest place None = None
step_at dest place (Some history) = step_there dest (slice_get history.items place)

-- the number 65,536 d + i is step i of destination d
abbrev pub step_numbered : List (Vec Step Global) → ℕ → Option StepAt
step_numbered histories number =
    step_at (number / most_steps) (number % most_steps) (slice_get histories (number / most_steps))

-- the steps with these numbers
abbrev pub steps_numbered : List (Vec Step Global) → List ℕ → List StepAt
steps_numbered histories order = filter_map (step_numbered histories) order

-- the history of a queue; without one, there are no steps
abbrev pub recorded_there : Option (Vec Step Global) → List RecordedStep
recorded_there None = []
recorded_there (Some history) = map recorded_of history.items

abbrev pub history_at : List (Vec Step Global) → ℕ → List RecordedStep
history_at histories d = recorded_there (slice_get histories d)

-- of these steps, those of one queue
abbrev pub steps_at : ℕ → List StepAt → List RecordedStep
steps_at d steps = map (λ x. x.step) (filter (λ x. x.dest == d) steps)

-- the steps of each queue are its history
abbrev pub AreHistories : List (Vec Step Global) → List StepAt → Type 0
AreHistories histories steps = (d : ℕ) → steps_at d steps ≡ history_at histories d

-- the steps of each queue are those of its history before a place
abbrev pub AreUpTo : List (Vec Step Global) → List ℕ → List StepAt → Type 0
AreUpTo histories places steps =
    (d : ℕ) → steps_at d steps ≡ take (slice_index places d) (history_at histories d)

-- ---- of a run

-- a take that finds nothing is not recorded
abbrev pub take_recorded : ℕ → ℕ → List RecordedStep
take_recorded limit taken = if nat_lt 0 taken then Took limit taken ∷ [] else []

-- what a queue of this size records of an act, where a batch has at most this many datapoints
abbrev pub recorded_by : ℕ → ℕ → Destination → Act → List RecordedStep
recorded_by size limit before (OfferedAct reader point) =
    Offered reader (slice_index before.queue.next reader) point (kept_of size before.queue) ∷ []
recorded_by size limit before Taken = take_recorded limit (length (batch limit before.queue))
recorded_by size limit before Connected = []
recorded_by size limit before (Written count) = []
recorded_by size limit before Lost = []

abbrev pub steps_of : Configuration → Deed → List StepAt
steps_of c deed =
    map (λ step. record { dest = deed.dest; step = step })
    (recorded_by c.size c.limit deed.before deed.act)

-- what all queues record in a run, in the order in which it happens
abbrev pub steps_in : Run → List StepAt
steps_in run =
    flat_map (steps_of run.configuration)
    (all_deeds relay_reading run.configuration (start_of relay_reading run) run.events)

-- ---- the event of a step

abbrev pub event_by : ℕ → RecordedStep → RunEvent
event_by dest (Offered reader number point kept) = Offer reader
event_by dest (Took limit taken) = Take dest

abbrev pub event_of : StepAt → RunEvent
event_of x = event_by x.dest x.step
