-- A run that is made event by event of its parts, and its text.
use Rattle.std.specs.Prelude.{ℕ, ◌≡◌, ◌≢◌, ◌<◌, Bool, true, false, List, [], ◌∷◌, ◌++◌, length, drop, filter, map, min, All, slice_index}
use Rattle.line_text.specs.Datapoint.{Datapoint}
use Rattle.dest_queue.specs.RecordedStep.{RecordedStep, Offered, Took}
use Rattle.dest_queue.specs.declared.offer.Kept.{Kept}
use Rattle.dest_queue.specs.declared.offer.Kept.TheVariants as kept
use Rattle.queue_records.specs.Numbered.{StepAt}
use Rattle.reader_core.specs.Configuration.{Dispatch}
use Rattle.reader_core.specs.Kinds.{relay_reading}
use Rattle.reader_core.specs.declared.kind.ReaderKind.{ReaderKind}
use Rattle.relay_core.specs.Relay.{run_of}
use Rattle.relay_core.specs.Run.{dest_in, reader_in}
use Rattle.relay_core.specs.WorldModel.{WorldModel, RepresentsRun, OfItsRuns, HasAsMany}
use Rattle.relay_core.specs.World.{RunEvent, waiting_of}
use Rattle.relay_core.specs.declared.event.Answer.{Answer}
use Rattle.relay_core.specs.declared.event.Answer.TheVariants.{Done, Dropped, NotNow, Spent}
use Rattle.run_record.specs.Laws.{IsWritable}
use Rattle.run_record.specs.ScriptLines.{script_text}
use Rattle.run_record.specs.QueueSteps.{steps_in, event_of}
use Rattle.run_record.specs.PartEvents.{is_fed_to, is_connection_of, is_done_by, is_step, list_at, PartsOfRun, HasParts}
use Rattle.run_record.specs.RunScript.{EachAllowed}
use Rattle.run_record.specs.declared.applying.Part.{Part}
use Rattle.run_record.specs.declared.applying.Part.TheVariants.{Reader, Writer}

-- ---- a world and its text

-- a world has gone through these events, each of which was allowed and has a line, and the text has their lines
pub record HasGone (s : WorldModel) (size limit : ℕ) (kinds : List ReaderKind)
    (text : List ℕ) (events : List RunEvent) : Type 0 where
  pub represents : RepresentsRun s size limit kinds events
  pub allowed : EachAllowed (run_of s.plan size limit kinds events)
  pub writable : All IsWritable events
  pub written : text ≡ script_text kinds events

-- if a world had gone through the text before, it has now gone through the text after, which has these events more
pub record Continues (old new : WorldModel) (before after : List ℕ)
    (added : List RunEvent) : Type 0 where
  pub plan : new.plan ≡ old.plan
  pub places : HasAsMany new old
  pub goes :
      (size limit : ℕ) (kinds : List ReaderKind) (events : List RunEvent)
      → HasGone old size limit kinds before events
      → HasGone new size limit kinds after (events ++ added)

-- in a run that the world had gone through, the queues record these steps more with the added events
abbrev pub Records : WorldModel → ℕ → List ℕ → List RunEvent → List StepAt → Type 0
Records old limit before added steps =
    (size : ℕ) (kinds : List ReaderKind) (events : List RunEvent)
    → HasGone old size limit kinds before events
    → steps_in (run_of old.plan size limit kinds (events ++ added))
    ≡ steps_in (run_of old.plan size limit kinds events) ++ steps

-- ---- a step

abbrev pub happens : Answer → Bool
happens Done = true
happens Dropped = true
happens NotNow = false
happens Spent = false

-- the answer to an offer that is queued or dropped
abbrev pub answer_of : Kept → Answer
answer_of kept.Queued = Done
answer_of kept.Dropped = Dropped

-- the step is an offer with this answer
abbrev pub IsAnswered : RecordedStep → Answer → Type 0
IsAnswered (Offered reader number point k) answer = answer ≡ answer_of k
IsAnswered (Took limit taken) answer = ⊥

-- the step is an offer of the reader, with this number and datapoint
abbrev pub IsOffer : RecordedStep → ℕ → ℕ → Datapoint → Type 0
IsOffer (Offered r n p k) reader number point = (r ≡ reader) × (n ≡ number) × (p ≡ point)
IsOffer (Took limit taken) reader number point = ⊥

-- the step is the first offer of the reader that waits in the world, at this destination
pub record IsFirst (s : WorldModel) (reader dest : ℕ) (step : RecordedStep) : Type 0 where
  pub number : ℕ
  pub point : Datapoint
  pub is : IsOffer step reader number point
  pub there : dest < length s.destinations
  pub numbered : OfItsRuns s (λ run. number ≡ slice_index (dest_in relay_reading run dest).queue.next reader)
  pub waits : OfItsRuns s (λ run. (others : List Dispatch)
      × (waiting_of relay_reading run.configuration (reader_in relay_reading run reader)
      ≡ record { dest = dest; point = point } ∷ others))

-- the step is a take of this limit that hands over as many of the datapoints that are queued as it may, and at least one
abbrev pub IsTake : RecordedStep → ℕ → ℕ → Type 0
IsTake (Offered reader number point k) limit queued = ⊥
IsTake (Took own taken) limit queued = (own ≡ limit) × (taken ≡ min limit queued) × (0 < taken)

-- ---- one part

-- an event is of a part: a reader is fed it, or it is of a destination's connection
abbrev pub is_of : Part → RunEvent → Bool
is_of (Reader r) event = is_fed_to r event
is_of (Writer d) event = is_connection_of d event

abbrev pub number_of : Part → ℕ
number_of (Reader r) = r
number_of (Writer d) = d

-- from a start to a place the list has events of the part, and then these; a world went through the first, and then through
-- the last
pub record Reaches (part : Part) (list : List RunEvent) (start place : ℕ)
    (old new : WorldModel) (before after : List ℕ) (these last : List RunEvent) : Type 0 where
  pub added : List RunEvent
  pub goes : Continues old new before after (added ++ last)
  pub each : All (λ event. is_of part event ≡ true) added
  pub has : added ++ (these ++ drop place list) ≡ drop start list

-- what is left of the list with that number
abbrev pub rest_of : List (List RunEvent) → List ℕ → ℕ → List RunEvent
rest_of lists starts k = drop (slice_index starts k) (list_at lists k)

-- the same for the list of a part, whose start has moved to the place; the other starts are the same; the queues record
-- these steps
pub record Moves (part : Part) (lists : List (List RunEvent)) (starts moved : List ℕ) (limit : ℕ)
    (old new : WorldModel) (before after : List ℕ) (these last : List RunEvent) (steps : List StepAt) : Type 0 where
  pub added : List RunEvent
  pub goes : Continues old new before after (added ++ last)
  pub records : Records old limit before (added ++ last) steps
  pub each : All (λ event. is_of part event ≡ true) added
  pub has : added ++ (these ++ rest_of lists moved (number_of part)) ≡ rest_of lists starts (number_of part)
  pub others : (k : ℕ) → k ≢ number_of part → rest_of lists moved k ≡ rest_of lists starts k

-- ---- all parts

-- a world went through events of the lists up to the starts, of which the queues record these steps
pub record Made (fed written : List (List RunEvent)) (fed_starts written_starts : List ℕ) (limit : ℕ)
    (old new : WorldModel) (before after : List ℕ) (steps : List StepAt) : Type 0 where
  pub added : List RunEvent
  pub goes : Continues old new before after added
  pub records : Records old limit before added steps
  pub inputs : (r : ℕ) → filter (is_fed_to r) added ++ rest_of fed fed_starts r ≡ list_at fed r
  pub writers : (d : ℕ) → filter (is_done_by d) added ++ rest_of written written_starts d ≡ list_at written d
  pub in_order : filter is_step added ≡ map event_of steps

-- nothing is left of the lists before that number
abbrev pub AreUsed : List (List RunEvent) → List ℕ → ℕ → Type 0
AreUsed lists starts count = (k : ℕ) → k < count → rest_of lists starts k ≡ []

-- a world went through all of the parts
pub record MakesParts (parts : PartsOfRun) (limit : ℕ) (old new : WorldModel)
    (before after : List ℕ) : Type 0 where
  pub added : List RunEvent
  pub goes : Continues old new before after added
  pub records : Records old limit before added parts.steps
  pub has_parts : HasParts parts added
