-- What the threads of a relay promise of what they leave, and that it is one run of the whole.
use Rattle.std.specs.Prelude.{ℕ, ◌≡◌, ◌<◌, Bool, false, true, [], length, slice_get, slice_index_or, Some}
use Rattle.dest_queue.specs.Queue.{empty_queue}
use Rattle.router.specs.Plan.{Plan, stays_below}
use Rattle.reader_core.specs.Kinds.{relay_reading}
use Rattle.relay_core.specs.Agreement.{AgreesAt, SameAt}
use Rattle.relay_core.specs.Headline.{PassesOn}
use Rattle.relay_core.specs.Logged.{batches}
use Rattle.queue_records.specs.DoorRecord.{HasOffersOf, HasTakesOf}
use Rattle.queue_records.specs.Offers.{OffersMade, IsFresh}
use Rattle.queue_records.specs.Takes.{TakesMade, IsFreshOfTakes}
use Rattle.mio_loops.specs.WriterLog.{WriterLog}
use Rattle.receivers.specs.Record.{ReceiverRan}
use Rattle.senders.specs.Laws.{batches_of}
use Rattle.senders.specs.Record.{SenderRan}
use Rattle.senders.specs.Steps.{steps_at}
use Rattle.settled_run.specs.Settled.{QueuesSettled, IsOneRun, HasCounts, run_in}
use Rattle.settled_run.specs.SettledParts.{ReceiverLeft, SenderLeft, RelayLeft, readers_in, owner_in}

-- a receiver ran with a door that had made no offer to any of these destinations, the door was closed, and the log was
-- not sealed
pub record ReceiverPromises (dests place : ℕ) (x : ReceiverLeft) : Type 0 where
  pub before : OffersMade
  pub after : OffersMade
  pub fresh : IsFresh dests place before
  -- the moments that its clock may return
  pub may_give : ℕ → Bool
  pub ran : ReceiverRan x.kind x.plan place may_give x.log before after
  pub reported : HasOffersOf after x.door
  pub unsealed : x.log.sealed ≡ false

-- a sender ran with an outlet that had taken nothing from any of these destinations, the outlet was closed, and no log
-- was sealed
pub record SenderPromises (dests limit : ℕ) (x : SenderLeft) : Type 0 where
  pub before : TakesMade
  pub after : TakesMade
  pub fresh : IsFreshOfTakes dests before
  pub ran : SenderRan dests limit x.logs before after
  pub reported : HasTakesOf after x.outlet
  pub unsealed :
      (d : ℕ) (log : WriterLog) → slice_get x.logs d ≡ Some log → log.sealed ≡ false

-- the threads of a relay promise what they did: all are of one plan, one queue size and one batch
-- limit, and each take gave its sender the datapoints of the history's take
pub record ThreadsPromise (plan : Plan) (size limit : ℕ) (x : RelayLeft) : Type 0 where
  pub dests : length x.histories ≡ plan.destinations
  -- the plan's routes stay among its destinations
  pub routes : stays_below plan.destinations plan.routing ≡ true
  pub plans : (k : ℕ) (r : ReceiverLeft) → slice_get x.receivers k ≡ Some r → r.plan ≡ plan
  pub receivers :
      (k : ℕ) (r : ReceiverLeft) → slice_get x.receivers k ≡ Some r
      → ReceiverPromises (length x.histories) k r
  -- there is a sender
  pub some_sender : 0 < length x.senders
  pub senders :
      (k : ℕ) (s : SenderLeft) → slice_get x.senders k ≡ Some s
      → SenderPromises (length x.histories) limit s
  pub handed :
      (d : ℕ) → d < length x.histories → (s : SenderLeft)
      → (at : slice_get x.senders (owner_in x d) ≡ Some s)
      → batches_of (steps_at d (senders (owner_in x d) s at).ran.steps)
      ≡ batches size (empty_queue (readers_in x)) (slice_index_or x.histories d [])

-- ---- the law

abbrev pub SettledLaw : Type 0
SettledLaw =
    (plan : Plan) (size limit : ℕ) (x : RelayLeft) (queues : QueuesSettled size x)
    → ThreadsPromise plan size limit x → IsOneRun plan size limit x queues

abbrev pub SettledCountsLaw : Type 0
SettledCountsLaw =
    (plan : Plan) (size limit : ℕ) (x : RelayLeft) (queues : QueuesSettled size x)
    → ThreadsPromise plan size limit x → HasCounts plan size limit x queues

-- and what it receives, it sends
abbrev pub SettledPassesOnLaw : Type 0
SettledPassesOnLaw =
    (plan : Plan) (size limit : ℕ) (x : RelayLeft) (queues : QueuesSettled size x)
    → ThreadsPromise plan size limit x → PassesOn (run_in plan size limit x queues)

-- two relays that have settled, and agree on a destination's steps and on what each reader has for it, hand it the same
-- bytes and have the same counts there
abbrev pub SettledIsolatedLaw : Type 0
SettledIsolatedLaw =
    (plan other : Plan) (size limit other_size other_limit : ℕ) (x y : RelayLeft)
    (queues : QueuesSettled size x) (other_queues : QueuesSettled other_size y)
    → ThreadsPromise plan size limit x → ThreadsPromise other other_size other_limit y
    → (d : ℕ) → d < plan.destinations → d < other.destinations
    → AgreesAt relay_reading d (run_in plan size limit x queues)
    (run_in other other_size other_limit y other_queues)
    → SameAt relay_reading d (run_in plan size limit x queues)
    (run_in other other_size other_limit y other_queues)
