-- What the parts of a relay logged and recorded, each by itself, and when it agrees.
use Rattle.std.specs.Prelude.{ℕ, ◌≡◌, ◌≤◌, ◌<◌, List, [], ◌∷◌, ◌++◌, length, map, flat_map, slice_index_or}
use Rattle.line_text.specs.Datapoint.{Datapoint}
use Rattle.dest_queue.specs.Queue.{Queue, empty_queue, batch, most_steps}
use Rattle.dest_queue.specs.RecordedStep.{RecordedStep, Offered, Took}
use Rattle.dest_queue.specs.History.{Replays, queue_after_recorded}
use Rattle.dest_writer.specs.Writer.{fresh_writer}
use Rattle.reader_core.specs.Reading.{Reading}
use Rattle.reader_core.specs.Configuration.{Configuration}
use Rattle.reader_core.specs.Entries.{InputEntry}
use Rattle.reader_core.specs.declared.kind.ReaderKind.{ReaderKind}
use Rattle.reader_core.specs.declared.kind.ReaderKind.TheVariants.{Line}
use Rattle.common_orders.specs.CommonOrder.{IsCommonOrder}
use Rattle.dest_writer.specs.Log.{LogEntry, takes_in_log, AreWritten}
use Rattle.reader_core.specs.Record.{IsRecordOf}
use Rattle.relay_core.specs.Weave.{takes_in_history}
use Rattle.dest_queue.specs.Numbered.{NumberedStep, all_numbered, history_numbers, numbers_of, offers_of_reader, offers_at}

pub record Logged : Type 0 where
  pub kinds : List ReaderKind
  -- what each reader was fed, entry by entry
  pub inputs : List (List InputEntry)
  -- the steps of each destination's queue
  pub histories : List (List RecordedStep)
  -- the log of each destination's writer
  pub logs : List (List LogEntry)
  -- the steps that the parts recorded, one list for each part, with the numbers that they have in
  -- the histories
  pub records : List (List NumberedStep)

abbrev pub kind_of : Logged → ℕ → ReaderKind
kind_of l r = slice_index_or l.kinds r Line

abbrev pub entries_of : Logged → ℕ → List InputEntry
entries_of l r = slice_index_or l.inputs r []

abbrev pub history_of : Logged → ℕ → List RecordedStep
history_of l d = slice_index_or l.histories d []

abbrev pub log_of : Logged → ℕ → List LogEntry
log_of l d = slice_index_or l.logs d []

abbrev pub all_recorded : Logged → List NumberedStep
all_recorded l = flat_map (λ steps. steps) l.records

-- a reader's record: the offers that it made, in order
abbrev pub record_of : Logged → ℕ → List NumberedStep
record_of l r = offers_of_reader r (all_recorded l)

-- ---- a destination

-- each take of a history has this limit
abbrev pub HaveLimit : ℕ → List RecordedStep → Type 0
HaveLimit limit [] = Unit {0}
HaveLimit limit (Offered reader number point kept ∷ steps) = HaveLimit limit steps
HaveLimit limit (Took own taken ∷ steps) = (own ≡ limit) × HaveLimit limit steps

-- the batches that the takes of a history hand over
abbrev pub batches : ℕ → Queue → List RecordedStep → List (List Datapoint)
batches size q [] = []
batches size q (Offered reader number point kept ∷ steps) =
    batches size (queue_after_recorded size q (Offered reader number point kept)) steps
batches size q (Took limit taken ∷ steps) =
    batch limit q ∷ batches size (queue_after_recorded size q (Took limit taken)) steps

-- ---- all

module _ (reading : Reading) (c : Configuration) where
  -- the history replays from the empty queue, and the log is one that its batches allow
  pub record IsLogOf (readers : ℕ) (history : List RecordedStep)
      (log : List LogEntry) : Type 0 where
    pub end : Queue
    pub replays : Replays c.size (empty_queue readers) history end
    pub unsealed : length history ≤ most_steps
    pub limits : HaveLimit c.limit history
    pub takes : takes_in_history history ≡ takes_in_log log
    pub written : AreWritten fresh_writer log (batches c.size (empty_queue readers) history)

  -- all agree, in this order
  pub record AgreesInOrder (l : Logged) (order : List ℕ) : Type 0 where
    pub inputs : length l.inputs ≡ length l.kinds
    pub histories : length l.histories ≡ c.destinations
    pub logs : length l.logs ≡ c.destinations
    pub readers :
        (r : ℕ) → r < length l.kinds → IsRecordOf reading c (kind_of l r) (entries_of l r) (record_of l r)
    pub destinations :
        (d : ℕ) → d < c.destinations → IsLogOf (length l.kinds) (history_of l d) (log_of l d)
    -- the recorded offers of a reader at a destination are those of the histories, in the same
    -- order
    pub same :
        (r d : ℕ) → offers_at r d (all_recorded l) ≡ offers_at r d (all_numbered 0 l.histories)
    -- all offers of a reader are in one record
    pub one_record :
        (r : ℕ)
        → (place : ℕ) × (offers_of_reader r (slice_index_or l.records place []) ≡ record_of l r)
    -- the order is a common order of the histories' steps and of each record's
    pub common : IsCommonOrder (history_numbers 0 l.histories ++ map numbers_of l.records) order
