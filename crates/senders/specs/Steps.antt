-- What a sender does for its destinations, step by step.
use Rattle.std.specs.Prelude.{ℕ, ◌≡◌, ◌≤◌, ◌==◌, if◌then◌else◌, Bool, true, false, List, [], ◌∷◌, length, Some}
use Rattle.std.specs.List.{slice_get}
use Rattle.line_text.specs.Datapoint.{Datapoint}
use Rattle.queue_records.specs.Takes.{TakesMade}
use Rattle.mio_loops.specs.OutgoingState.{OutgoingState}
use Rattle.mio_loops.specs.WriteLoop.{is_up_at}
use Rattle.mio_loops.specs.WriterSteps.{WriterStep, UpStep, TakeStep, WroteStep, DownStep, AreAllowed, writer_after_steps, log_after_steps, record_after_step}

-- a step of the writer of a destination
pub record DestStep : Type 0 where
  pub dest : ℕ
  pub step : WriterStep

-- the steps of one destination, in order
abbrev pub steps_at : ℕ → List DestStep → List WriterStep
steps_at dest [] = []
steps_at dest (s ∷ steps) =
    if s.dest == dest then s.step ∷ steps_at dest steps else steps_at dest steps

-- what a supply has recorded after all of them
abbrev pub record_after_all : List DestStep → TakesMade → TakesMade
record_after_all [] made = made
record_after_all (s ∷ steps) made =
    record_after_all steps (record_after_step s.dest s.step made)

-- each take has this limit
abbrev pub HaveLimit : ℕ → List WriterStep → Type 0
HaveLimit limit [] = Unit {0}
HaveLimit limit (UpStep ∷ steps) = HaveLimit limit steps
HaveLimit limit (TakeStep own batch ∷ steps) = (own ≡ limit) × HaveLimit limit steps
HaveLimit limit (WroteStep count ∷ steps) = HaveLimit limit steps
HaveLimit limit (DownStep ∷ steps) = HaveLimit limit steps

-- ---- what was handed over

-- the batch of a take is one that a supply with this record may hand over
abbrev pub IsHandedStep : (TakesMade → ℕ → ℕ → List Datapoint → Type 0) → ℕ → WriterStep
    → TakesMade → Type 0
IsHandedStep may_hand dest UpStep made = Unit {0}
IsHandedStep may_hand dest (TakeStep limit batch) made = may_hand made dest limit batch
IsHandedStep may_hand dest (WroteStep count) made = Unit {0}
IsHandedStep may_hand dest DownStep made = Unit {0}

-- so is that of each take among these steps, with the record that those before it leave
abbrev pub AreHanded : (TakesMade → ℕ → ℕ → List Datapoint → Type 0) → List DestStep → TakesMade
    → Type 0
AreHanded may_hand [] made = Unit {0}
AreHanded may_hand (s ∷ steps) made =
    IsHandedStep may_hand s.dest s.step made
    × AreHanded may_hand steps (record_after_step s.dest s.step made)

abbrev pub is_take : WriterStep → Bool
is_take UpStep = false
is_take (TakeStep limit batch) = true
is_take (WroteStep count) = false
is_take DownStep = false

-- none of these steps is a take
abbrev pub HaveNoTakes : List DestStep → Type 0
HaveNoTakes [] = Unit {0}
HaveNoTakes (s ∷ steps) = (is_take s.step ≡ false) × HaveNoTakes steps

-- ---- the destinations of a loop

module _ {W : Type 0} where
  -- the steps of a destination, each allowed after those before it, lead from the one to the other
  pub record DestProgress (steps : List WriterStep) (old new : OutgoingState W) : Type 0 where
    pub allowed : AreAllowed steps old.writer
    pub writer : new.writer ≡ writer_after_steps steps old.writer
    pub log : new.log ≡ log_after_steps steps old.log
    pub limit : new.limit ≡ old.limit
    pub limits : HaveLimit old.limit steps

  -- each destination went by its own of these steps, and the supply recorded all of them, in order
  pub record DestsProgress (steps : List DestStep) (olds news : List (OutgoingState W))
      (before after : TakesMade) : Type 0 where
    pub dests : length news ≡ length olds
    pub each : (dest : ℕ) (old : OutgoingState W) → slice_get olds dest ≡ Some old
        → (new : OutgoingState W) × (slice_get news dest ≡ Some new)
        × DestProgress (steps_at dest steps) old new
    -- there are no steps of other destinations
    pub others : (dest : ℕ) → length olds ≤ dest → steps_at dest steps ≡ []
    pub made : after ≡ record_after_all steps before

  -- by some steps, which the supply recorded, with batches that it may hand over
  abbrev pub SomeProgress : (TakesMade → ℕ → ℕ → List Datapoint → Type 0)
      → (olds news : List (OutgoingState W)) → (before after : TakesMade) → Type 0
  SomeProgress may_hand olds news before after =
      (steps : List DestStep) × DestsProgress steps olds news before after × AreHanded may_hand steps before

  -- by some steps of which a supply records nothing: connections were made and lost
  abbrev pub ConnectionsProgress : (olds news : List (OutgoingState W)) → Type 0
  ConnectionsProgress olds news =
      (steps : List DestStep) × HaveNoTakes steps
      × ((made : TakesMade) → DestsProgress steps olds news made made)

  -- each destination that has a connection is owned
  abbrev pub AllUpOwned : (ℕ → Bool) → List (OutgoingState W) → Type 0
  AllUpOwned is_owned outs = (dest : ℕ) → is_up_at outs dest ≡ true → is_owned dest ≡ true
