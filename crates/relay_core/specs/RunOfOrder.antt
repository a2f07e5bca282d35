-- The run of an order: what readers and writers logged, placed round the steps of the queues in
-- their order.
use Rattle.std.specs.Prelude.{ℕ, ◌-◌, Bool, true, false, ◌==◌, if◌then◌else◌, List, [], ◌∷◌, ◌++◌, length, map, take, drop, flat_map}
use Rattle.std.specs.List.{range_with_len}
use Rattle.dest_queue.specs.RecordedStep.{RecordedStep, Offered, Took}
use Rattle.reader_core.specs.Input.{Stream, fresh_input}
use Rattle.reader_core.specs.Reading.{Reading}
use Rattle.reader_core.specs.Configuration.{Configuration}
use Rattle.reader_core.specs.Entries.{InputEntry, Piece, End, input_after_entry}
use Rattle.reader_core.specs.declared.kind.ReaderKind.{ReaderKind}
use Rattle.relay_core.specs.World.{RunEvent, Offer, Take, Up, Wrote, Down}
use Rattle.relay_core.specs.World as worlds
use Rattle.relay_core.specs.Run.{Run}
use Rattle.dest_writer.specs.Log.{LogEntry, UpEntry, TakeEntry, WroteEntry, DownEntry}
use Rattle.relay_core.specs.Weave.{WovenStep, Offering, Taking, Connecting, Writing, Losing}
use Rattle.dest_queue.specs.Numbered.{NumberedStep, steps_in_order}
use Rattle.reader_core.specs.Record.{offers_on}
use Rattle.relay_core.specs.Logged.{Logged, kind_of, entries_of, log_of, record_of}

-- what is placed: an entry of a reader's log, or a step at a destination
pub data Placed : Type 0 where
  Entering : (reader : ℕ) (entry : InputEntry) → Placed
  Stepping : (dest : ℕ) (step : WovenStep) → Placed

-- ---- the event that it is: an offer names its reader alone

abbrev pub event_of_entry : ℕ → InputEntry → RunEvent
event_of_entry r (Piece bytes moment) = worlds.Piece r bytes moment
event_of_entry r End = worlds.End r

abbrev pub event_of_step : ℕ → WovenStep → RunEvent
event_of_step d (Offering reader number point kept) = Offer reader
event_of_step d (Taking limit taken) = Take d
event_of_step d Connecting = Up d
event_of_step d (Writing count) = Wrote d count
event_of_step d Losing = Down d

abbrev pub event_of_placed : Placed → RunEvent
event_of_placed (Entering r entry) = event_of_entry r entry
event_of_placed (Stepping d step) = event_of_step d step

-- ---- whose it is: a reader's, or a destination's writer's

pub data Part : Type 0 where
  OfReader : (reader : ℕ) → Part
  OfWriter : (dest : ℕ) → Part

abbrev pub part_of_step : ℕ → WovenStep → Part
part_of_step d (Offering reader number point kept) = OfReader reader
part_of_step d (Taking limit taken) = OfWriter d
part_of_step d Connecting = OfWriter d
part_of_step d (Writing count) = OfWriter d
part_of_step d Losing = OfWriter d

abbrev pub part_of : Placed → Part
part_of (Entering r entry) = OfReader r
part_of (Stepping d step) = part_of_step d step

abbrev pub is_same : Part → Part → Bool
is_same (OfReader r) (OfReader q) = r == q
is_same (OfReader r) (OfWriter d) = false
is_same (OfWriter d) (OfReader r) = false
is_same (OfWriter d) (OfWriter e) = d == e

-- reader by reader, then destination by destination
abbrev pub parts_of : ℕ → ℕ → List Part
parts_of readers dests =
    map OfReader (range_with_len 0 readers) ++ map OfWriter (range_with_len 0 dests)

-- ---- placing by an order

-- an offer or a take, which is a step of a queue
abbrev pub is_queue_step : WovenStep → Bool
is_queue_step (Offering reader number point kept) = true
is_queue_step (Taking limit taken) = true
is_queue_step Connecting = false
is_queue_step (Writing count) = false
is_queue_step Losing = false

abbrev pub is_of_queue : Placed → Bool
is_of_queue (Entering r entry) = false
is_of_queue (Stepping d step) = is_queue_step step

-- the steps before the first step of a queue, and those behind it
abbrev pub before_step : List Placed → List Placed
before_step [] = []
before_step (x ∷ xs) = if is_of_queue x then [] else x ∷ before_step xs

abbrev pub behind_step : List Placed → List Placed
behind_step [] = []
behind_step (x ∷ xs) = if is_of_queue x then xs else behind_step xs

-- only what is behind its next step of a queue is left of that part
abbrev pub left_behind : Part → (Part → List Placed) → Part → List Placed
left_behind p own q = if is_same p q then behind_step (own q) else own q

-- the steps in their order; right before each, what its part has up to it and is not placed yet; at
-- the end the rest, part by part
abbrev pub placed_by : List Part → (Part → List Placed) → List Placed → List Placed
placed_by parts own [] = flat_map own parts
placed_by parts own (step ∷ steps) =
    before_step (own (part_of step))
    ++ step ∷ placed_by parts (left_behind (part_of step) own) steps

-- ---- what is a part's own, in its order

-- a step of a queue
abbrev pub step_of_recorded : RecordedStep → WovenStep
step_of_recorded (Offered reader number point kept) = Offering reader number point kept
step_of_recorded (Took limit taken) = Taking limit taken

abbrev pub placed_of : NumberedStep → Placed
placed_of x = Stepping x.dest (step_of_recorded x.step)

-- a writer's log
abbrev pub step_of_entry : LogEntry → WovenStep
step_of_entry UpEntry = Connecting
step_of_entry (TakeEntry limit taken) = Taking limit taken
step_of_entry (WroteEntry count) = Writing count
step_of_entry DownEntry = Losing

abbrev pub own_of_writer : ℕ → List LogEntry → List Placed
own_of_writer d log = map (λ entry. Stepping d (step_of_entry entry)) log

module _ (reading : Reading) (c : Configuration) where
  -- how many offers an entry gives: the number that the input sends more with it
  abbrev pub given_by : ReaderKind → List Stream → InputEntry → ℕ
  given_by kind input entry =
      length (offers_on reading c kind (input_after_entry kind entry input))
      - length (offers_on reading c kind input)

  -- the entries of a reader's log, and right behind each those of the recorded offers that it
  -- gives; entries that give all recorded offers leave none for the end
  abbrev pub own_of_reader :
      ℕ → ReaderKind → List Stream → List InputEntry → List Placed → List Placed
  own_of_reader r kind input [] offers = offers
  own_of_reader r kind input (entry ∷ entries) offers =
      Entering r entry ∷ take (given_by kind input entry) offers
      ++ own_of_reader r kind (input_after_entry kind entry input) entries
      (drop (given_by kind input entry) offers)

  abbrev pub own_of : Logged → Part → List Placed
  own_of l (OfReader r) =
      own_of_reader r (kind_of l r) (fresh_input (kind_of l r)) (entries_of l r)
      (map placed_of (record_of l r))
  own_of l (OfWriter d) = own_of_writer d (log_of l d)

  -- ---- the run of an order

  -- the offers and takes of the histories in the order, with all else that was logged
  abbrev pub placed_in_order : Logged → List ℕ → List Placed
  placed_in_order l order =
      placed_by (parts_of (length l.kinds) c.destinations) (own_of l)
      (map placed_of (steps_in_order l.histories order))

  abbrev pub events_in_order : Logged → List ℕ → List RunEvent
  events_in_order l order = map event_of_placed (placed_in_order l order)

  abbrev pub run_of_order : Logged → List ℕ → Run
  run_of_order l order =
      record { configuration = c; kinds = l.kinds; events = events_in_order l order }
