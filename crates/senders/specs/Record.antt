-- What a sender returns.
use Rattle.std.specs.Prelude.{ℕ, ◌≡◌, ◌⊎◌, ◌≤◌, true, List, [], length, Option, Some, None}
use Rattle.std.specs.List.{slice_get}
use Rattle.line_text.specs.Datapoint.{Datapoint}
use Rattle.dest_writer.specs.Writer.{fresh_writer}
use Rattle.queue_records.specs.Takes.{TakesMade}
use Rattle.mio_loops.specs.WriterLog.{WriterLog, empty_log}
use Rattle.mio_loops.specs.WriterSteps.{WriterStep, AreAllowed, log_after_steps}
use Rattle.mio_loops.specs.declared.readiness.ReadinessFault.{ReadinessFault}
use Rattle.mio_loops.specs.declared.readiness.ReadinessFault.TheVariants.{Device, NoMemory}
use Rattle.senders.specs.Steps.{DestStep, steps_at, record_after_all, HaveLimit, AreHanded}

-- a destination's writer did these steps from the first on, each allowed after those before it, and this is
-- its log
pub record DestRan (limit : ℕ) (steps : List WriterStep) (log : WriterLog) : Type 0 where
  pub allowed : AreAllowed steps fresh_writer
  pub limits : HaveLimit limit steps
  pub logged : log ≡ log_after_steps steps empty_log

-- a sender of this number of destinations ran: each writer did its own of the steps, and the supply recorded the
-- takes of all, in order
pub record SenderRan (dests limit : ℕ) (logs : List WriterLog) (before after : TakesMade) : Type 0
  where
    pub steps : List DestStep
    pub count : length logs ≡ dests
    pub each : (dest : ℕ) (log : WriterLog) → slice_get logs dest ≡ Some log
        → DestRan limit (steps_at dest steps) log
    -- there are no steps of other destinations
    pub others : (dest : ℕ) → dests ≤ dest → steps_at dest steps ≡ []
    pub made : after ≡ record_after_all steps before

-- the log of a writer that memory did not suffice for
abbrev pub no_log : WriterLog
no_log = record { entries = []; sealed = true }

abbrev pub AreNone : List WriterLog → Type 0
AreNone logs = (dest : ℕ) (log : WriterLog) → slice_get logs dest ≡ Some log → log ≡ no_log

-- a sender ran, and took in hand batches that its supply may hand over
abbrev pub RanAsHanded : (TakesMade → ℕ → ℕ → List Datapoint → Type 0) → (dests limit : ℕ)
    → List WriterLog → (before after : TakesMade) → Type 0
RanAsHanded may_hand dests limit logs before after =
    (ran : SenderRan dests limit logs before after) × AreHanded may_hand ran.steps before

-- it did; or there was no memory for its loop, and it did nothing
abbrev pub SenderEnds : (TakesMade → ℕ → ℕ → List Datapoint → Type 0) → (dests limit : ℕ)
    → Option ReadinessFault → List WriterLog → (before after : TakesMade) → Type 0
SenderEnds may_hand dests limit fault logs before after =
    RanAsHanded may_hand dests limit logs before after
    ⊎ ((fault ≡ Some NoMemory) × AreNone logs × (after ≡ before))

-- why a sender ended without being stopped: a device failed, or there was no memory for its loop, and then it
-- did nothing
abbrev pub EndsFor : Option ReadinessFault → List WriterLog → (before after : TakesMade) → Type 0
EndsFor None logs before after = Unit {0}
EndsFor (Some Device) logs before after = Unit {0}
EndsFor (Some NoMemory) logs before after = AreNone logs × (after ≡ before)
