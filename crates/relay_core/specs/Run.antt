-- A run: what happened at the destinations, and what a reader has, what it has offered and what it
-- has left.
use Rattle.std.specs.Prelude.{ℕ, ◌==◌, if◌then◌else◌, List, [], ◌∷◌, ◌++◌, filter, filter_map, flat_map, Option, Some, None}
use Rattle.line_text.specs.Datapoint.{Datapoint}
use Rattle.dest_queue.specs.Queue.{has_room, batch}
use Rattle.reader_core.specs.Reading.{Reading}
use Rattle.reader_core.specs.Configuration.{Configuration, sent_to}
use Rattle.relay_core.specs.Destination.{Destination, Act, Offered, Taken}
use Rattle.relay_core.specs.World.{WorldState, ReaderState, RunEvent, ActAt, fresh_world, reader_at, dest_at, step_of, is_allowed, after, after_all, waiting_of, points_of}
use Rattle.reader_core.specs.declared.kind.ReaderKind.{ReaderKind}

-- a configuration, the kinds of the readers, and the events
pub record Run : Type 0 where
  pub configuration : Configuration
  pub kinds : List ReaderKind
  pub events : List RunEvent

-- an act that happened, and the destination before it
pub record Deed : Type 0 where
  pub dest : ℕ
  pub act : Act
  pub before : Destination

-- ---- what happened at one destination

-- what happened there, in order
abbrev pub deeds_at : ℕ → List Deed → List Deed
deeds_at d all = filter (λ deed. deed.dest == d) all

abbrev pub point_by : ℕ → Act → Option Datapoint
point_by r (Offered reader point) = if reader == r then Some point else None
point_by r act = None

-- the points that a reader offered
abbrev pub offered_by : ℕ → List Deed → List Datapoint
offered_by r all = filter_map (λ deed. point_by r deed.act) all

abbrev pub point_kept : ℕ → Destination → Act → Option Datapoint
point_kept size before (Offered reader point) =
    if has_room size before.queue then Some point else None
point_kept size before act = None

-- the points that a queue of this size kept
abbrev pub points_kept : ℕ → List Deed → List Datapoint
points_kept size all = filter_map (λ deed. point_kept size deed.before deed.act) all

abbrev pub batch_handed : ℕ → Destination → Act → List Datapoint
batch_handed limit before Taken = batch limit before.queue
batch_handed limit before act = []

-- the points that the queue handed over, in batches of this limit
abbrev pub points_handed_over : ℕ → List Deed → List Datapoint
points_handed_over limit all = flat_map (λ deed. batch_handed limit deed.before deed.act) all

-- ---- a whole run

module _ (reading : Reading) where
  abbrev pub deed_of : WorldState → Option ActAt → List Deed
  deed_of w None = []
  deed_of w (Some step) =
      record { dest = step.dest; act = step.act; before = dest_at w step.dest } ∷ []

  -- what an event does at a destination, if it is allowed
  abbrev pub deeds_by : Configuration → WorldState → RunEvent → List Deed
  deeds_by c w event =
      if is_allowed reading c w event then deed_of w (step_of reading c w event) else []

  abbrev pub all_deeds : Configuration → WorldState → List RunEvent → List Deed
  all_deeds c w [] = []
  all_deeds c w (event ∷ events) =
      deeds_by c w event ++ all_deeds c (after reading c w event) events

  abbrev pub start_of : Run → WorldState
  start_of run = fresh_world run.configuration run.kinds

  abbrev pub end_of : Run → WorldState
  end_of run = after_all reading run.configuration (start_of run) run.events

  -- the reader and the destination at the end
  abbrev pub reader_in : Run → ℕ → ReaderState
  reader_in run r = reader_at (end_of run) r

  abbrev pub dest_in : Run → ℕ → Destination
  dest_in run d = dest_at (end_of run) d

  abbrev pub deeds_in : Run → ℕ → List Deed
  deeds_in run d = deeds_at d (all_deeds run.configuration (start_of run) run.events)

  -- what the reader has for the destination, what it offered of that, and what waits
  abbrev pub points_in : Run → ℕ → ℕ → List Datapoint
  points_in run r d = points_of reading run.configuration d (reader_in run r)

  abbrev pub offered_in : Run → ℕ → ℕ → List Datapoint
  offered_in run r d = offered_by r (deeds_in run d)

  abbrev pub waiting_in : Run → ℕ → ℕ → List Datapoint
  waiting_in run r d = sent_to d (waiting_of reading run.configuration (reader_in run r))

  -- what the destination's queue kept, and what it handed over
  abbrev pub kept_in : Run → ℕ → List Datapoint
  kept_in run d = points_kept run.configuration.size (deeds_in run d)

  abbrev pub handed_in : Run → ℕ → List Datapoint
  handed_in run d = points_handed_over run.configuration.limit (deeds_in run d)
