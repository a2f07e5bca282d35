-- What the threads of a relay leave when they have ended, and what that is together.
use Rattle.std.specs.Prelude.{ℕ, ◌*◌, ◌/◌, ◌%◌, ◌==◌, List, [], ◌∷◌, length, map, filter, slice_index_or}
use Rattle.std.specs.List.{range_with_len}
use Rattle.dest_queue.specs.RecordedStep.{RecordedStep}
use Rattle.dest_queue.specs.declared.counts.Counts.{Counts}
use Rattle.router.specs.Plan.{Plan}
use Rattle.reader_core.specs.Entries.{InputEntry, entries_of}
use Rattle.reader_core.specs.declared.kind.ReaderKind.{ReaderKind}
use Rattle.reader_core.specs.declared.kind.ReaderKind.TheVariants.{Line}
use Rattle.dest_writer.specs.Log.{LogEntry, Batch}
use Rattle.relay_core.specs.Weave.{takes_in_history}
use Rattle.dest_queue.specs.Numbered.{NumberedStep, offers_of_reader}
use Rattle.relay_core.specs.Logged.{Logged}
use Rattle.queue_records.specs.Numbered.{StepAt, with_number, with_numbers}
use Rattle.queue_records.specs.Offers.{readers_each}
use Rattle.queue_records.specs.Records.{steps_of_door, steps_of_outlet, steps_of_records}
use Rattle.mio_loops.specs.InputLog.{LogState}
use Rattle.mio_loops.specs.WriterLog.{WriterLog}
use Rattle.queue_records.specs.declared.door_record.DoorRecord.{DoorRecord}
use Rattle.queue_records.specs.declared.outlet_record.OutletRecord.{OutletRecord}

-- a receiver, all of whose readers are of one kind
pub record ReceiverLeft : Type 0 where
  pub kind : ReaderKind
  pub plan : Plan
  -- what its readers were fed
  pub log : LogState
  pub door : DoorRecord

-- a sender
pub record SenderLeft : Type 0 where
  -- what its writers did, destination by destination
  pub logs : List WriterLog
  pub outlet : OutletRecord

-- a relay that was stopped, and whose queues have settled
pub record RelayLeft : Type 0 where
  -- receiver 0, 1 and so on
  pub receivers : List ReceiverLeft
  -- sender 0, 1 and so on
  pub senders : List SenderLeft
  -- what each queue has counted, and its history
  pub counts : List Counts
  pub histories : List (List RecordedStep)
  -- the common order
  pub order : List ℕ

abbrev pub doors_of : RelayLeft → List DoorRecord
doors_of x = map (λ r. r.door) x.receivers

abbrev pub outlets_of : RelayLeft → List OutletRecord
outlets_of x = map (λ s. s.outlet) x.senders

-- ---- a reader

-- how many readers there are
abbrev pub readers_in : RelayLeft → ℕ
readers_in x = readers_each * length x.receivers

abbrev pub kind_in : RelayLeft → ℕ → ReaderKind
kind_in x r = slice_index_or (map (λ y. y.kind) x.receivers) (r / readers_each) Line

abbrev pub fed_in : RelayLeft → ℕ → List InputEntry
fed_in x r = entries_of r (slice_index_or (map (λ y. y.log.entries) x.receivers) (r / readers_each) [])

-- the offers of a reader among those that a door recorded; they need no numbers here
abbrev pub offers_in : ℕ → DoorRecord → List NumberedStep
offers_in r door = offers_of_reader r (map (with_number 0) (steps_of_door door))

-- ---- a destination, which one sender owns

abbrev pub owner_in : RelayLeft → ℕ → ℕ
owner_in x d = d % length x.senders

abbrev pub log_in : RelayLeft → ℕ → List LogEntry
log_in x d =
    slice_index_or
    (slice_index_or (map (λ s. map (λ log. log.entries) s.logs) x.senders) (owner_in x d) []) d []

-- the takes at a destination among those that an outlet recorded
abbrev pub takes_in : ℕ → OutletRecord → List Batch
takes_in d outlet =
    takes_in_history (map (λ s. s.step) (filter (λ s. s.dest == d) (steps_of_outlet outlet)))

-- ---- all of it

-- the steps of the records, each with its number
abbrev pub numbered_records : List (List StepAt) → List (List ℕ) → List (List NumberedStep)
numbered_records [] numbers = []
numbered_records (steps ∷ records) [] = []
numbered_records (steps ∷ records) (own ∷ numbers) =
    with_numbers steps own ∷ numbered_records records numbers

-- what was logged and recorded, if the steps of the records have these numbers
abbrev pub logged_of : RelayLeft → List (List ℕ) → Logged
logged_of x numbers =
    record {
      kinds = map (kind_in x) (range_with_len 0 (readers_in x));
      inputs = map (fed_in x) (range_with_len 0 (readers_in x));
      histories = x.histories;
      logs = map (log_in x) (range_with_len 0 (length x.histories));
      records = numbered_records (steps_of_records (doors_of x) (outlets_of x)) numbers;
    }
