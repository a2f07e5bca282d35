-- One turn of one destination, put together.
use Rattle.std.proofs.Common.{◌≡◌, ℕ, true, false, List, [], ◌∷◌, refl}
use Rattle.std.proofs.lemmas.Bool.{false≢true}
use Rattle.line_text.specs.Datapoint.{Datapoint}
use Rattle.dest_writer.specs.Calls.{CountedCalls}
use Rattle.dest_writer.specs.declared.driven.Driven.{Driven}
use Rattle.dest_writer.specs.declared.driven.Driven.TheVariants.{Idle, Blocked, Again, Failed}
use Rattle.mio_loops.specs.WriterSteps.{WriterSide, LeadTo, DownStep}
use Rattle.queue_records.specs.Takes.{TakesMade}
use Rattle.mio_loops.specs.WriteServe.{Moved, IsHanded, EndsAs, is_failed, steps_of_batch, steps_of_write, steps_of_turn}
use Rattle.mio_loops.proofs.StepsLemmas.{LeadTo-none, LeadTo-then}

is_failed-is : (driven : Driven) → is_failed driven ≡ true → driven ≡ Failed
is_failed-is Failed e = refl
is_failed-is Idle e = absurd (false≢true e)
is_failed-is Blocked e = absurd (false≢true e)
is_failed-is Again e = absurd (false≢true e)

-- a batch, a drive that did not fail
pub served-stays : (dest limit : ℕ) (moved : Moved) (driven : Driven) (x y z : WriterSide)
    → LeadTo dest (steps_of_batch limit moved.batch) x y → LeadTo dest (steps_of_write moved.count) y z → is_failed driven ≡ false
    → LeadTo dest (steps_of_turn limit moved driven) x z
served-stays dest limit moved driven x y z first second stays =
    LeadTo-then dest _ _ x y z first
    (LeadTo-then dest _ _ y z z second (rw stays (LeadTo-none dest z)))

-- a batch, a drive that failed, and the connection is lost
pub served-leaves : (dest limit : ℕ) (moved : Moved) (driven : Driven) (x y z end : WriterSide)
    → LeadTo dest (steps_of_batch limit moved.batch) x y → LeadTo dest (steps_of_write moved.count) y z
    → LeadTo dest (DownStep ∷ []) z end → is_failed driven ≡ true
    → LeadTo dest (steps_of_turn limit moved driven) x end
served-leaves dest limit moved driven x y z end first second third failed =
    LeadTo-then dest _ _ x y end first
    (LeadTo-then dest _ _ y z end second (rw failed third))

-- what is left after a drive that failed does not count
pub ends-leaves : (driven : Driven) (bytes more : ℕ) (old new : CountedCalls) → is_failed driven ≡ true → EndsAs driven bytes old new → EndsAs driven more old new
ends-leaves driven bytes more old new failed e =
    record {
      answer = λ other. absurd (other (is_failed-is driven failed));
      tried = e.tried;
      calls = e.calls;
      failed = e.failed;
      not_failed = e.not_failed;
    }

-- a batch that a supply may hand over, also an empty one
pub handed-is : (may_hand : TakesMade → ℕ → ℕ → List Datapoint → Type 0) (made : TakesMade) (dest limit : ℕ) (batch : List Datapoint)
    → may_hand made dest limit batch → IsHanded may_hand made dest limit batch
handed-is may_hand made dest limit [] may = tt
handed-is may_hand made dest limit (point ∷ points) may = may
