-- What one turn of one destination is.
use Rattle.std.specs.Prelude.{ℕ, ◌≡◌, ◌≢◌, ◌≤◌, ◌+◌, Bool, true, false, if◌then◌else◌, ◌==◌, List, [], ◌∷◌, ◌++◌}
use Rattle.line_text.specs.Datapoint.{Datapoint}
use Rattle.dest_writer.specs.Calls.{CountedCalls}
use Rattle.dest_writer.specs.declared.driven.Driven.{Driven}
use Rattle.dest_writer.specs.declared.driven.Driven.TheVariants.{Idle, Blocked, Again, Failed}
use Rattle.dest_writer.specs.Counting.{Rose}
use Rattle.dest_writer.specs.Drive.{driven_of, most_writes}
use Rattle.dest_writer.specs.Writer.{left}
use Rattle.queue_records.specs.Takes.{TakesMade}
use Rattle.mio_loops.specs.WriterSteps.{WriterStep, TakeStep, WroteStep, DownStep, WriterSide, LeadTo}

-- what it moved: one batch from the queue, and a number of bytes to the connection
pub record Moved : Type 0 where
  pub batch : List Datapoint
  pub count : ℕ

-- a batch of nothing is no step
abbrev pub steps_of_batch : ℕ → List Datapoint → List WriterStep
steps_of_batch limit [] = []
steps_of_batch limit (point ∷ points) = TakeStep limit (point ∷ points) ∷ []

-- a batch that was taken is one that a supply with this record may hand over
abbrev pub IsHanded : (TakesMade → ℕ → ℕ → List Datapoint → Type 0) → TakesMade → ℕ → ℕ
    → List Datapoint → Type 0
IsHanded may_hand made dest limit [] = Unit {0}
IsHanded may_hand made dest limit (point ∷ points) = may_hand made dest limit (point ∷ points)

-- nor are no bytes
abbrev pub steps_of_write : ℕ → List WriterStep
steps_of_write count = if count == 0 then [] else WroteStep count ∷ []

abbrev pub is_failed : Driven → Bool
is_failed Failed = true
is_failed Idle = false
is_failed Blocked = false
is_failed Again = false

-- a connection that failed goes down
abbrev pub steps_of_end : Driven → List WriterStep
steps_of_end driven = if is_failed driven then DownStep ∷ [] else []

-- one batch, then one drive with this end
abbrev pub steps_of_turn : ℕ → Moved → Driven → List WriterStep
steps_of_turn limit moved driven =
    steps_of_batch limit moved.batch ++ (steps_of_write moved.count ++ steps_of_end driven)

-- how a drive that left this number of bytes ended, by the counts of the connection's calls
pub record EndsAs (driven : Driven) (bytes : ℕ) (old new : CountedCalls) : Type 0 where
  -- as its last write ended, if some bytes are left
  pub answer : driven ≢ Failed → driven ≡ driven_of bytes new.last
  -- that write was made in this drive, one of 16 at most
  pub tried : driven ≢ Idle → Rose old.calls new.calls
  pub calls : new.calls ≤ old.calls + most_writes
  -- it failed only if the count of failures rose
  pub failed : driven ≡ Failed → Rose old.failures new.failures
  pub not_failed : driven ≢ Failed → new.failures ≡ old.failures

-- a turn of a destination's writer, from the one to the other, with a batch that the supply may hand over
pub record IsServed (may_hand : TakesMade → ℕ → ℕ → List Datapoint → Type 0) (dest limit : ℕ)
    (moved : Moved) (driven : Driven) (old new : WriterSide) (before after : CountedCalls) : Type 0
  where
    pub handed : IsHanded may_hand old.made dest limit moved.batch
    pub steps : LeadTo dest (steps_of_turn limit moved driven) old new
    pub ends : EndsAs driven (left new.writer) before after
