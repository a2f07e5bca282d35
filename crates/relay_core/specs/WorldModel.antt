-- A world as the code keeps it, and the runs that it represents.
use Rattle.std.specs.Prelude.{ℕ, ◌≡◌, ◌≢◌, ◌+◌, Bool, true, false, not, ◌&&◌, nat_lt, List, [], ◌∷◌, ◌++◌, length, map, slice_get, Option, Some, None}
use Rattle.std.specs.List.{AllZip}
use Rattle.router.specs.Plan.{Plan}
use Rattle.reader_core.specs.Configuration.{Dispatch}
use Rattle.dest_queue.specs.Offer.{last_count}
use Rattle.reader_core.specs.Kinds.{relay_reading}
use Rattle.reader_core.specs.PlanConfiguration.{configuration_of}
use Rattle.reader_core.specs.Input.{fresh_input}
use Rattle.reader_core.specs.Reader.{ReaderModel, Represents, is_closed}
use Rattle.reader_core.specs.declared.kind.ReaderKind.{ReaderKind}
use Rattle.relay_core.specs.Destination.{Destination, Act, Offered, Taken, Connected, Written, Lost, may_act, dest_after}
use Rattle.relay_core.specs.World.{WorldState, ReaderState, RunEvent, is_nothing}
use Rattle.relay_core.specs.World as worlds
use Rattle.relay_core.specs.Run.{Run, end_of}
use Rattle.relay_core.specs.Relay.{run_of}
use Rattle.relay_core.specs.Event.{Happened, answer_to}
use Rattle.relay_core.specs.declared.event.Answer.{Answer}
use Rattle.relay_core.specs.declared.event.Answer.TheVariants.{Spent}
use Rattle.relay_core.specs.declared.destination.Act as acts
use Rattle.relay_core.specs.declared.destination.Act.TheVariants.{Take, Connect, Write, Lose}

-- a destination, with the greatest numbers of datapoints that its queue and a batch may have
pub record SizedDestination : Type 0 where
  pub size : ℕ
  pub limit : ℕ
  pub destination : Destination

abbrev pub with_sizes : ℕ → ℕ → Destination → SizedDestination
with_sizes size limit destination =
    record { size = size; limit = limit; destination = destination }

-- after an act that may happen
abbrev pub sized_after : Act → SizedDestination → SizedDestination
sized_after act s = record s { destination = dest_after s.size s.limit s.destination act }

-- an act of the code
abbrev pub act_of : acts.Act → Act
act_of Take = Taken
act_of Connect = Connected
act_of (Write count) = Written count
act_of Lose = Lost

pub record WorldModel : Type 0 where
  pub plan : Plan
  pub readers : List ReaderModel
  pub destinations : List SizedDestination
  -- how many events happened
  pub events : ℕ

-- ---- which events may happen

abbrev pub may_be_fed : Option ReaderModel → Bool
may_be_fed None = false
may_be_fed (Some s) = not (is_closed s) && is_nothing s.waiting

abbrev pub may_offer : Option ReaderModel → Bool
may_offer None = false
may_offer (Some s) = not (is_nothing s.waiting)

abbrev pub may_act_at : Act → Option SizedDestination → Bool
may_act_at act None = false
may_act_at act (Some s) = may_act s.destination act

abbrev pub may_happen : List ReaderModel → List SizedDestination → RunEvent → Bool
may_happen readers dests (worlds.Piece r bytes moment) = may_be_fed (slice_get readers r)
may_happen readers dests (worlds.End r) = nat_lt r (length readers)
may_happen readers dests (worlds.Offer r) = may_offer (slice_get readers r)
may_happen readers dests (worlds.Take d) = may_act_at Taken (slice_get dests d)
may_happen readers dests (worlds.Up d) = may_act_at Connected (slice_get dests d)
may_happen readers dests (worlds.Wrote d count) = may_act_at (Written count) (slice_get dests d)
may_happen readers dests (worlds.Down d) = may_act_at Lost (slice_get dests d)

-- ---- which events take memory

-- a new connection has a list for its bytes, and a write adds to that of the last
abbrev pub takes_memory_at : Act → Bool
takes_memory_at (Offered reader point) = true
takes_memory_at Taken = false
takes_memory_at Connected = true
takes_memory_at (Written count) = nat_lt 0 count
takes_memory_at Lost = false

-- a piece adds what it becomes to the reader, and an offer adds a step to the queue's history
abbrev pub takes_memory : RunEvent → Bool
takes_memory (worlds.Piece r bytes moment) = true
takes_memory (worlds.End r) = false
takes_memory (worlds.Offer r) = true
takes_memory (worlds.Take d) = takes_memory_at Taken
takes_memory (worlds.Up d) = takes_memory_at Connected
takes_memory (worlds.Wrote d count) = takes_memory_at (Written count)
takes_memory (worlds.Down d) = takes_memory_at Lost

-- ---- what it represents

-- the reader was fed that input under the plan, and has made this number of offers
pub record IsReader (plan : Plan) (s : ReaderModel) (r : ReaderState) : Type 0 where
  pub taken : List Dispatch
  pub made : length taken ≡ r.made
  pub represents : Represents s r.kind plan r.input taken

-- the reader has no input yet, whatever its plan
abbrev pub IsFresh : ReaderModel → ReaderKind → Type 0
IsFresh s kind = (plan : Plan) → Represents s kind plan (fresh_input kind) []

-- each reader is the reader with that number; the destinations are the same, with this size and
-- limit
pub record IsWorld (plan : Plan) (readers : List ReaderModel) (dests : List SizedDestination)
    (size limit : ℕ) (w : WorldState) : Type 0 where
  pub readers_are : AllZip (IsReader plan) readers w.readers
  pub destinations_are : dests ≡ map (with_sizes size limit) w.destinations

-- the world has gone through the run of its plan, with queues of this size and batches of this
-- limit
abbrev pub RepresentsRun : WorldModel → ℕ → ℕ → List ReaderKind → List RunEvent → Type 0
RepresentsRun s size limit kinds events =
    IsWorld s.plan s.readers s.destinations size limit
    (end_of relay_reading (run_of s.plan size limit kinds events))

-- what holds for each run that it has gone through
abbrev pub OfItsRuns : WorldModel → (Run → Type 0) → Type 0
OfItsRuns s P =
    (size limit : ℕ) (kinds : List ReaderKind) (events : List RunEvent)
    → RepresentsRun s size limit kinds events → P (run_of s.plan size limit kinds events)

-- it has as many readers and destinations as the other
pub record HasAsMany (s other : WorldModel) : Type 0 where
  pub readers : length s.readers ≡ length other.readers
  pub destinations : length s.destinations ≡ length other.destinations

-- ---- an event

-- how an event's answer relates the world before it and after it
pub record Applies (old : WorldModel) (event : RunEvent) (answer : Answer)
    (new : WorldModel) : Type 0 where
  -- it is the answer of each run that the world represents, unless no more events can be counted
  pub answers :
      answer ≢ Spent → (size limit : ℕ) (kinds : List ReaderKind) (events : List RunEvent)
      → RepresentsRun old size limit kinds events
      → answer ≡ answer_to relay_reading (configuration_of old.plan size limit)
      (end_of relay_reading (run_of old.plan size limit kinds events)) event
  -- the world represents that run with the event
  pub represents :
      answer ≢ Spent → (size limit : ℕ) (kinds : List ReaderKind) (events : List RunEvent)
      → RepresentsRun old size limit kinds events
      → RepresentsRun new size limit kinds (events ++ event ∷ [])
  pub counted : Happened answer → new.events ≡ old.events + 1
  -- only an event that may happen is refused because no more can be counted, and only when the
  -- count is full
  pub spent :
      answer ≡ Spent
      → (old.events ≡ last_count) × (may_happen old.readers old.destinations event ≡ true)
  pub unchanged : ¬ Happened answer → new ≡ old

-- an event to which the world may say that it is out of memory: but for memory it would happen
pub record NeedsMemory (old : WorldModel) (event : RunEvent) : Type 0 where
  -- it may happen
  pub may : may_happen old.readers old.destinations event ≡ true
  -- it can be counted
  pub counted : old.events ≢ last_count
  -- it takes memory
  pub takes : takes_memory event ≡ true
