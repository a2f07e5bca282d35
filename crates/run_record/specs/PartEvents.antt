-- The parts of a run, each in its own order, and the events that are exactly what they hold.
use Rattle.std.specs.Prelude.{ℕ, ◌≡◌, ◌==◌, Bool, true, false, List, [], map, filter, slice_index_or}
use Rattle.std.proofs.Common.{Vec, Global}
use Rattle.dest_queue.specs.declared.counts.Counts.{Counts}
use Rattle.queue_records.specs.Numbered.{StepAt}
use Rattle.reader_core.specs.declared.kind.ReaderKind.{ReaderKind}
use Rattle.relay_core.specs.Event.{run_event}
use Rattle.relay_core.specs.World.{RunEvent, Piece, End, Offer, Take, Up, Wrote, Down}
use Rattle.relay_core.specs.declared.event.Event.{Event}
use Rattle.run_record.specs.QueueSteps.{steps_numbered, event_of}
use Rattle.run_record.specs.declared.parts.RunParts.{RunParts}

-- ---- what an event is of

-- a reader is fed it
abbrev pub is_fed_to : ℕ → RunEvent → Bool
is_fed_to r (Piece q bytes moment) = q == r
is_fed_to r (End q) = q == r
is_fed_to r (Offer q) = false
is_fed_to r (Take d) = false
is_fed_to r (Up d) = false
is_fed_to r (Wrote d count) = false
is_fed_to r (Down d) = false

-- a destination's connection comes, takes bytes or goes
abbrev pub is_connection_of : ℕ → RunEvent → Bool
is_connection_of d (Piece r bytes moment) = false
is_connection_of d (End r) = false
is_connection_of d (Offer r) = false
is_connection_of d (Take e) = false
is_connection_of d (Up e) = e == d
is_connection_of d (Wrote e count) = e == d
is_connection_of d (Down e) = e == d

-- a destination's writer does it
abbrev pub is_done_by : ℕ → RunEvent → Bool
is_done_by d (Piece r bytes moment) = false
is_done_by d (End r) = false
is_done_by d (Offer r) = false
is_done_by d (Take e) = e == d
is_done_by d (Up e) = e == d
is_done_by d (Wrote e count) = e == d
is_done_by d (Down e) = e == d

-- it is an offer or a take
abbrev pub is_step : RunEvent → Bool
is_step (Piece r bytes moment) = false
is_step (End r) = false
is_step (Offer r) = true
is_step (Take d) = true
is_step (Up d) = false
is_step (Wrote d count) = false
is_step (Down d) = false

-- ---- the parts

-- what each reader was fed, what each destination's writer did, the steps of all queues in their order, and what each queue
-- has counted at the end
pub record PartsOfRun : Type 0 where
  pub kinds : List ReaderKind
  pub fed : List (List RunEvent)
  pub written : List (List RunEvent)
  pub steps : List StepAt
  pub counts : List Counts

abbrev pub lists_of : List (Vec Event Global) → List (List RunEvent)
lists_of lists = map (λ list. map run_event list.items) lists

abbrev pub parts_of : RunParts → PartsOfRun
parts_of parts =
    record {
      kinds = parts.kinds.now;
      fed = lists_of parts.fed.now;
      written = lists_of parts.written.now;
      steps = steps_numbered parts.histories.now parts.order.now;
      counts = parts.counts.now;
    }

-- the list with that number; if there is none, an empty one
abbrev pub list_at : List (List RunEvent) → ℕ → List RunEvent
list_at lists k = slice_index_or lists k []

-- the events are those of the parts, all of them and no others, each part's in its order
pub record HasParts (parts : PartsOfRun) (events : List RunEvent) : Type 0 where
  -- each reader is fed its list
  pub inputs : (r : ℕ) → filter (is_fed_to r) events ≡ list_at parts.fed r
  -- each destination's writer does its list
  pub writers : (d : ℕ) → filter (is_done_by d) events ≡ list_at parts.written d
  -- the offers and takes are those of the steps
  pub in_order : filter is_step events ≡ map event_of parts.steps
