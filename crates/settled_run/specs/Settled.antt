-- A relay that settled: its threads, each by itself, did one run of the whole.
use Rattle.std.specs.Prelude.{ℕ, ◌≡◌, ◌+◌, ◌*◌, ◌<◌, List, [], ◌∷◌, length, slice_get, slice_index_or, map, Some}
use Rattle.line_text.specs.Datapoint.{Datapoint}
use Rattle.dest_queue.specs.Queue.{empty_queue}
use Rattle.dest_queue.specs.Counts.{counts_of}
use Rattle.dest_queue.specs.declared.counts.Counts.{Counts}
use Rattle.dest_writer.specs.Writer.{fresh_writer}
use Rattle.router.specs.Plan.{Plan}
use Rattle.reader_core.specs.Configuration.{Configuration}
use Rattle.reader_core.specs.Entries.{entries_of}
use Rattle.reader_core.specs.Kinds.{relay_reading}
use Rattle.reader_core.specs.PlanConfiguration.{configuration_of}
use Rattle.reader_core.specs.Reading.{Reading}
use Rattle.dest_writer.specs.Log.{AreWritten, Batch, takes_in_log}
use Rattle.reader_core.specs.Record.{IsRecordOf}
use Rattle.relay_core.specs.Logged.{Logged, batches}
use Rattle.relay_core.specs.OneRun.{HasAllLogged}
use Rattle.relay_core.specs.Relay.{run_of}
use Rattle.relay_core.specs.Run.{Run, dest_in}
use Rattle.relay_core.specs.RunOfOrder.{events_in_order}
use Rattle.relay_core.specs.World.{RunEvent}
use Rattle.queue_records.specs.Offers.{readers_each}
use Rattle.queue_records.specs.Records.{SettlesBy}
use Rattle.queue_records.specs.Settling.{AreBegun, AreUnsealed, HaveSums}
use Rattle.queue_records.specs.Strangers.{AreOfSet}
use Rattle.settled_run.specs.SettledParts.{ReceiverLeft, SenderLeft, RelayLeft, doors_of, outlets_of, readers_in, offers_in, log_in, owner_in, takes_in, logged_of}

-- ---- the threads

-- each batch was taken with this limit
abbrev pub HaveLimit : ℕ → List Batch → Type 0
HaveLimit limit [] = Unit {0}
HaveLimit limit (batch ∷ batches) = (batch.limit ≡ limit) × HaveLimit limit batches

-- what a receiver leaves, whose readers have the numbers from this one on: each reader's offers are those of what it was
-- fed
abbrev pub RanReaders : Reading → Configuration → ℕ → ReceiverLeft → Type 0
RanReaders reading c first x =
    (token : ℕ) → token < readers_each
    → IsRecordOf reading c x.kind (entries_of (first + token) x.log.entries)
    (offers_in (first + token) x.door)

-- what is left at a destination: its writer did what the log says with the batches of its takes, the takes are those
-- that its owner's outlet recorded, and each has the datapoints of the history's take
pub record RanWriter (size limit : ℕ) (x : RelayLeft) (d : ℕ) : Type 0 where
  pub handed : List (List Datapoint)
  pub written : AreWritten fresh_writer (log_in x d) handed
  pub limits : HaveLimit limit (takes_in_log (log_in x d))
  pub takes :
      takes_in_log (log_in x d)
      ≡ slice_index_or (map (λ s. takes_in d s.outlet) x.senders) (owner_in x d) []
  pub same :
      handed ≡ batches size (empty_queue (readers_in x)) (slice_index_or x.histories d [])

-- ---- all

-- the queues of a relay have settled: its records are those of its set of queues, in the order of their seats, the
-- queues agree with them, and no history was sealed
pub record QueuesSettled (size : ℕ) (x : RelayLeft) : Type 0 where
  pub name : ℕ
  pub of_set :
      AreOfSet name (length x.histories) (length x.receivers) (length x.senders) (doors_of x)
      (outlets_of x)
  pub doors :
      (k : ℕ) (r : ReceiverLeft) → slice_get x.receivers k ≡ Some r → r.door.seat ≡ k
  pub outlets :
      (k : ℕ) (s : SenderLeft) → slice_get x.senders k ≡ Some s → s.outlet.seat ≡ k
  pub settles : SettlesBy (readers_in x) x.histories (doors_of x) (outlets_of x) x.order
  pub sums : HaveSums (doors_of x) (outlets_of x) x.counts
  pub begun : AreBegun size (readers_in x) x.counts x.histories
  pub unsealed : AreUnsealed x.counts

-- each thread's record is of what it did, by this plan, this queue size and this batch limit
pub record HaveRun (plan : Plan) (size limit : ℕ) (x : RelayLeft) : Type 0 where
  pub dests : length x.histories ≡ plan.destinations
  pub plans : (k : ℕ) (r : ReceiverLeft) → slice_get x.receivers k ≡ Some r → r.plan ≡ plan
  pub readers :
      (k : ℕ) (r : ReceiverLeft) → slice_get x.receivers k ≡ Some r
      → RanReaders relay_reading (configuration_of r.plan size limit) (readers_each * k) r
  pub writers : (d : ℕ) → d < length x.histories → RanWriter size limit x d

-- ---- the run

-- what was logged and recorded, with the numbers by which the queues settled
abbrev pub logged_in : (size : ℕ) (x : RelayLeft) → QueuesSettled size x → Logged
logged_in size x queues = logged_of x queues.settles.are.numbers

-- the events of the order
abbrev pub events_left : Plan → (size limit : ℕ) (x : RelayLeft) → QueuesSettled size x → List RunEvent
events_left plan size limit x queues =
    events_in_order relay_reading (configuration_of plan size limit) (logged_in size x queues)
    x.order

-- and their run
abbrev pub run_in : Plan → (size limit : ℕ) (x : RelayLeft) → QueuesSettled size x → Run
run_in plan size limit x queues =
    run_of plan size limit (logged_in size x queues).kinds
    (events_left plan size limit x queues)

-- the run of the order has all that was logged and recorded
abbrev pub IsOneRun : Plan → (size limit : ℕ) (x : RelayLeft) → QueuesSettled size x → Type 0
IsOneRun plan size limit x queues =
    HasAllLogged relay_reading (logged_in size x queues) x.order
    (run_in plan size limit x queues)

-- the counts of the queues are those of that run
abbrev pub HasCounts : Plan → (size limit : ℕ) (x : RelayLeft) → QueuesSettled size x → Type 0
HasCounts plan size limit x queues =
    (d : ℕ) (c : Counts) → slice_get x.counts d ≡ Some c
    → c ≡ counts_of (dest_in relay_reading (run_in plan size limit x queues) d).queue

-- ---- the law

abbrev pub RecordsLaw : Type 0
RecordsLaw =
    (plan : Plan) (size limit : ℕ) (x : RelayLeft) (queues : QueuesSettled size x)
    → HaveRun plan size limit x → IsOneRun plan size limit x queues

abbrev pub RecordsCountsLaw : Type 0
RecordsCountsLaw =
    (plan : Plan) (size limit : ℕ) (x : RelayLeft) (queues : QueuesSettled size x)
    → HaveRun plan size limit x → HasCounts plan size limit x queues
