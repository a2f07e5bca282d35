-- The steps of a destination, in the order of its queue and of its writer's log, are allowed.
use Rattle.std.proofs.Common.{◌≡◌, ℕ, not, ◌==◌, List, [], ◌∷◌, refl, sym, ap, ◌∙◌, subst, inl, inr, eq-eqb}
use Rattle.std.proofs.lemmas.Bool.{le-leb, ne_eqb}
use Rattle.std.proofs.lemmas.Bool.Decides.{eqb_tells}
use Rattle.reader_core.specs.Reading.{Reading}
use Rattle.reader_core.specs.Configuration.{Configuration}
use Rattle.dest_writer.specs.Writer.{left}
use Rattle.dest_queue.specs.RecordedStep.{Offered, Took}
use Rattle.relay_core.specs.Destination.{Destination, Taken, Connected, Written, Lost, dest_after}
use Rattle.relay_core.specs.Destination.{Offered as OfferedAct}
use Rattle.dest_writer.specs.Log.{LogEntry, UpEntry, TakeEntry, WroteEntry, DownEntry, AreWritten}
use Rattle.relay_core.specs.Weave.{WovenStep, Offering, Taking, Connecting, Writing, Losing, queue_steps, writer_steps, after_woven}
use Rattle.relay_core.specs.Logged.{HaveLimit, batches}
use Rattle.relay_core.specs.RunOfOrder.{Placed, Entering, Stepping, OfWriter, own_of_writer}
use Rattle.relay_core.proofs.Localities.{either, own_at, woven_at, Goes}
use Rattle.relay_core.proofs.Placing.{queue_steps_in}

module _ (reading : Reading) (c : Configuration) where
  pub goes_woven : (t : Destination) (steps : List WovenStep) → HaveLimit c.limit (queue_steps steps)
      → AreWritten t.writer (writer_steps steps) (batches c.size t.queue (queue_steps steps))
      → Goes reading c t steps (after_woven c.size t steps)
  goes_woven t [] limits written = refl
  goes_woven t (Offering reader number point kept ∷ steps) limits written =
      (refl, goes_woven (dest_after c.size c.limit t (OfferedAct reader point)) steps limits written)
  goes_woven t (Taking limit taken ∷ steps) limits written = (
    written.0,
    subst (λ l. Goes reading c (dest_after c.size l t Taken) steps (after_woven c.size (dest_after c.size limit t Taken) steps)) limits.0
        (goes_woven (dest_after c.size limit t Taken) steps limits.1 written.1),
  )
  goes_woven t (Connecting ∷ steps) limits written =
      (ap not written.0, goes_woven (dest_after c.size c.limit t Connected) steps limits written.1)
  goes_woven t (Writing count ∷ steps) limits written = (
    rw (written.0, le-leb count (left t.writer) written.1) refl,
    goes_woven (dest_after c.size c.limit t (Written count)) steps limits written.2,
  )
  goes_woven t (Losing ∷ steps) limits written =
      (written.0, goes_woven (dest_after c.size c.limit t Lost) steps limits written.1)

-- ---- the writer's steps among placed events

-- they are among the writer's own
same_writer_steps : (d : ℕ) (xs : List Placed) → writer_steps (woven_at d xs) ≡ writer_steps (woven_at d (own_at (OfWriter d) xs))
same_writer_steps d [] = refl
same_writer_steps d (Entering r entry ∷ xs) = same_writer_steps d xs
same_writer_steps d (Stepping e (Offering r number point kept) ∷ xs) = elim (either (e == d)) [
  | inl h ↦ rw h (same_writer_steps d xs)
  | inr h ↦ rw h (same_writer_steps d xs)
]
same_writer_steps d (Stepping e (Taking limit taken) ∷ xs) = elim (eqb_tells e d) [
  | inl own ↦ rw (own.0, eq-eqb d e (sym own.1), own.0) (ap (λ l. TakeEntry limit taken ∷ l) (same_writer_steps d xs))
  | inr other ↦ rw (other.0, ne_eqb d e (λ k. other.1 (sym k))) (same_writer_steps d xs)
]
same_writer_steps d (Stepping e Connecting ∷ xs) = elim (eqb_tells e d) [
  | inl own ↦ rw (own.0, eq-eqb d e (sym own.1), own.0) (ap (λ l. UpEntry ∷ l) (same_writer_steps d xs))
  | inr other ↦ rw (other.0, ne_eqb d e (λ k. other.1 (sym k))) (same_writer_steps d xs)
]
same_writer_steps d (Stepping e (Writing count) ∷ xs) = elim (eqb_tells e d) [
  | inl own ↦ rw (own.0, eq-eqb d e (sym own.1), own.0) (ap (λ l. WroteEntry count ∷ l) (same_writer_steps d xs))
  | inr other ↦ rw (other.0, ne_eqb d e (λ k. other.1 (sym k))) (same_writer_steps d xs)
]
same_writer_steps d (Stepping e Losing ∷ xs) = elim (eqb_tells e d) [
  | inl own ↦ rw (own.0, eq-eqb d e (sym own.1), own.0) (ap (λ l. DownEntry ∷ l) (same_writer_steps d xs))
  | inr other ↦ rw (other.0, ne_eqb d e (λ k. other.1 (sym k))) (same_writer_steps d xs)
]

steps_of_log : (d : ℕ) (log : List LogEntry) → writer_steps (woven_at d (own_of_writer d log)) ≡ log
steps_of_log d [] = refl
steps_of_log d (UpEntry ∷ log) = rw (eq-eqb d d refl) (ap (λ l. UpEntry ∷ l) (steps_of_log d log))
steps_of_log d (TakeEntry limit taken ∷ log) = rw (eq-eqb d d refl) (ap (λ l. TakeEntry limit taken ∷ l) (steps_of_log d log))
steps_of_log d (WroteEntry count ∷ log) = rw (eq-eqb d d refl) (ap (λ l. WroteEntry count ∷ l) (steps_of_log d log))
steps_of_log d (DownEntry ∷ log) = rw (eq-eqb d d refl) (ap (λ l. DownEntry ∷ l) (steps_of_log d log))

pub writer_steps_placed : (d : ℕ) (log : List LogEntry) (xs : List Placed) → own_at (OfWriter d) xs ≡ own_of_writer d log → writer_steps (woven_at d xs) ≡ log
writer_steps_placed d log xs own = same_writer_steps d xs ∙ (ap (λ ys. writer_steps (woven_at d ys)) own ∙ steps_of_log d log)

-- ---- the queue's steps among placed events

pub same_queue_steps : (d : ℕ) (xs : List Placed) → queue_steps (woven_at d xs) ≡ queue_steps (woven_at d (queue_steps_in xs))
same_queue_steps d [] = refl
same_queue_steps d (Entering r entry ∷ xs) = same_queue_steps d xs
same_queue_steps d (Stepping e (Offering r number point kept) ∷ xs) = elim (either (e == d)) [
  | inl h ↦ rw h (ap (λ l. Offered r number point kept ∷ l) (same_queue_steps d xs))
  | inr h ↦ rw h (same_queue_steps d xs)
]
same_queue_steps d (Stepping e (Taking limit taken) ∷ xs) = elim (either (e == d)) [
  | inl h ↦ rw h (ap (λ l. Took limit taken ∷ l) (same_queue_steps d xs))
  | inr h ↦ rw h (same_queue_steps d xs)
]
same_queue_steps d (Stepping e Connecting ∷ xs) = elim (either (e == d)) [
  | inl h ↦ rw h (same_queue_steps d xs)
  | inr h ↦ rw h (same_queue_steps d xs)
]
same_queue_steps d (Stepping e (Writing count) ∷ xs) = elim (either (e == d)) [
  | inl h ↦ rw h (same_queue_steps d xs)
  | inr h ↦ rw h (same_queue_steps d xs)
]
same_queue_steps d (Stepping e Losing ∷ xs) = elim (either (e == d)) [
  | inl h ↦ rw h (same_queue_steps d xs)
  | inr h ↦ rw h (same_queue_steps d xs)
]
