-- A reader of datagrams, and what it goes through.
use Rattle.std.specs.Prelude.{◌≡◌, ◌≤◌, ℕ, ◌==◌, Bool, true, List, length}
use Rattle.line_text.specs.Datapoint.{Datapoint}
use Rattle.router.specs.Plan.{Plan}
use Rattle.reader_core.specs.Configuration.{Dispatch}
use Rattle.reader_core.specs.Entries.{InputEntry}
use Rattle.reader_core.specs.Input.{Stream}
use Rattle.reader_core.specs.Reader.{ReaderModel, Represents}
use Rattle.reader_core.specs.declared.kind.ReaderKind.TheVariants.{Datagram}
use Rattle.queue_records.specs.Offers.{OffersMade}
use Rattle.mio_loops.specs.Reading.{ReaderProgress, AreMadeOrRefused}
use Rattle.receivers.specs.Record.{have_moments}
use Rattle.receivers.specs.declared.datagram_loop.DatagramLoop.{DatagramLoop}

-- the reader represents some datagrams
abbrev pub ReadsDatagrams : Plan → ReaderModel → Type 0
ReadsDatagrams plan reader =
    (input : List Stream) × (taken : List Dispatch) × Represents reader Datagram plan input taken

-- datagrams may be received: the reader represents some, and the door, which made these offers, has all
-- destinations of the plan
pub record IsReady (plan : Plan) (loop : DatagramLoop) (made : OffersMade) : Type 0 where
  pub datagrams : ReadsDatagrams plan loop.reader
  pub dests : plan.destinations ≤ length made.totals

-- this moment alone
abbrev pub is_at : ℕ → ℕ → Bool
is_at moment other = other == moment

-- the reader was fed some datagrams, each of a moment that the clock may return, some of its offers were made through
-- the door, all unless it refused one, the log noted the datagrams, and more may be received by the plan, which is left
-- as it was
pub record DatagramsProgress (refuses : ℕ → ℕ → Datapoint → Type 0) (may_give : ℕ → Bool) (plan left : Plan) (old new : DatagramLoop)
    (before after : OffersMade) : Type 0 where
  pub went : (entries : List InputEntry) × (made : List Dispatch)
      × ReaderProgress plan old.number entries made old.reader new.reader before after old.log new.log
      × (have_moments may_give entries ≡ true)
  pub number : new.number ≡ old.number
  pub waits : AreMadeOrRefused (refuses old.number) plan.destinations old.reader.waiting
      → AreMadeOrRefused (refuses old.number) plan.destinations new.reader.waiting
  pub plan_left : left ≡ plan
  pub ready : IsReady left new after
