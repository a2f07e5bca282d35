-- The headline: what the relay does, over every list of events.
--
-- Each reader has offered a destination, in order, a first part of its accepted datapoints that the
-- configuration sends there, rewritten, and the rest waits. What the destination's queue kept is
-- written as whole lines, in order, each once, or is in hand or queued. And two runs that agree on
-- a destination's steps and on what each reader has for it hand it the same bytes and have the same
-- counts there, of drops and of everything else.
--
-- The relay is one that reads as `relay_reading` says and sends as its plan does. The only premises
-- are that the two runs agree, and that both plans have the destination.
use Rattle.std.specs.Prelude.{ℕ, ◌<◌, List}
use Rattle.router.specs.Plan.{Plan}
use Rattle.reader_core.specs.Kinds.{relay_reading}
use Rattle.reader_core.specs.declared.kind.ReaderKind.{ReaderKind}
use Rattle.relay_core.specs.World.{RunEvent}
use Rattle.relay_core.specs.Run.{Run}
use Rattle.relay_core.specs.Relay.{run_of}
use Rattle.relay_core.specs.Laws.{OffersPrefix, CarriesInOrder, HandsOverKept, WritesWhole}
use Rattle.relay_core.specs.Agreement.{AgreesAt, SameAt}

-- ---- prefix

-- what a reader accepts goes out, in order, or waits, or is held, or was dropped by a full queue
pub record PassesOn (run : Run) : Type 0 where
  -- what a reader has offered a destination, followed by what waits, is what the reader has for it
  pub offers : OffersPrefix relay_reading run
  -- the k-th offer carries the k-th datapoint of these
  pub carries : CarriesInOrder relay_reading run
  -- what a queue kept was handed over, in order, and the rest is still queued
  pub hands_over : HandsOverKept relay_reading run
  -- what it kept was written as whole lines, in order, each once, except what is in hand and what
  -- is queued
  pub writes : WritesWhole relay_reading run

-- for each plan, queue size, batch limit, readers and events
abbrev pub PrefixLaw : Type 0
PrefixLaw =
    (plan : Plan) (size limit : ℕ) (kinds : List ReaderKind) (events : List RunEvent)
    → PassesOn (run_of plan size limit kinds events)

-- ---- isolation

-- for any two plans, whatever else differs; what must agree is the destination's size and limit,
-- its steps, and what each reader has for it
abbrev pub IsolatedLaw : Type 0
IsolatedLaw =
    (plan other : Plan) (size limit other_size other_limit : ℕ)
    (kinds other_kinds : List ReaderKind) (events other_events : List RunEvent)
    → (d : ℕ) → d < plan.destinations → d < other.destinations
    → AgreesAt relay_reading d (run_of plan size limit kinds events)
    (run_of other other_size other_limit other_kinds other_events)
    → SameAt relay_reading d (run_of plan size limit kinds events)
    (run_of other other_size other_limit other_kinds other_events)
