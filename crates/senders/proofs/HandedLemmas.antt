-- The batches that a supply handed over, among the steps of destinations.
use Rattle.std.proofs.Common.{◌≡◌, ◌==◌, if◌then◌else◌, ℕ, true, false, List, [], ◌∷◌, ◌++◌, map, refl, sym, subst}
use Rattle.std.proofs.lemmas.List.{map-append}
use Rattle.dest_writer.specs.declared.driven.Driven.{Driven}
use Rattle.line_text.specs.Datapoint.{Datapoint}
use Rattle.queue_records.specs.Takes.{TakesMade}
use Rattle.mio_loops.specs.WriterSteps.{WriterStep, UpStep, TakeStep, WroteStep, DownStep, record_after_step}
use Rattle.mio_loops.specs.WriteServe.{Moved, IsHanded, steps_of_batch, steps_of_write, steps_of_end, steps_of_turn, is_failed}
use Rattle.senders.specs.Steps.{DestStep, record_after_all, IsHandedStep, AreHanded, is_take, HaveNoTakes}

-- steps of one destination
abbrev pub steps_by : ℕ → List WriterStep → List DestStep
steps_by dest steps = map (λ s. record { dest = dest; step = s }) steps

true_is_not : true ≡ false → ⊥
true_is_not e = cc

pub no_takes-then : (xs ys : List DestStep) → HaveNoTakes xs → HaveNoTakes ys → HaveNoTakes (xs ++ ys)
no_takes-then [] ys first second = second
no_takes-then (x ∷ xs) ys first second = (first.0, no_takes-then xs ys first.1 second)

write-no_takes : (dest count : ℕ) → HaveNoTakes (steps_by dest (steps_of_write count))
write-no_takes dest count =
    elim (count == 0) as (λ b. HaveNoTakes (steps_by dest (if b then [] else WroteStep count ∷ []))) [
      | true ↦ tt
      | false ↦ (refl, tt)
    ]

end-no_takes : (dest : ℕ) (driven : Driven) → HaveNoTakes (steps_by dest (steps_of_end driven))
end-no_takes dest driven =
    elim (is_failed driven) as (λ b. HaveNoTakes (steps_by dest (if b then DownStep ∷ [] else []))) [
      | true ↦ (refl, tt)
      | false ↦ tt
    ]

module _ (may_hand : TakesMade → ℕ → ℕ → List Datapoint → Type 0) where
  pub handed-then : (xs ys : List DestStep) (made : TakesMade) → AreHanded may_hand xs made → AreHanded may_hand ys (record_after_all xs made)
      → AreHanded may_hand (xs ++ ys) made
  handed-then [] ys made first second = second
  handed-then (x ∷ xs) ys made first second = (first.0, handed-then xs ys (record_after_step x.dest x.step made) first.1 second)

  no_take-handed : (dest : ℕ) (step : WriterStep) (made : TakesMade) → is_take step ≡ false → IsHandedStep may_hand dest step made
  no_take-handed dest UpStep made none = tt
  no_take-handed dest (TakeStep limit batch) made none = absurd (true_is_not none)
  no_take-handed dest (WroteStep count) made none = tt
  no_take-handed dest DownStep made none = tt

  -- where there is no take, nothing need be handed over
  pub none-handed : (xs : List DestStep) (made : TakesMade) → HaveNoTakes xs → AreHanded may_hand xs made
  none-handed [] made none = tt
  none-handed (x ∷ xs) made none =
      (no_take-handed x.dest x.step made none.0, none-handed xs (record_after_step x.dest x.step made) none.1)

  batch-handed : (dest limit : ℕ) (batch : List Datapoint) (made : TakesMade) → IsHanded may_hand made dest limit batch
      → AreHanded may_hand (steps_by dest (steps_of_batch limit batch)) made
  batch-handed dest limit [] made handed = tt
  batch-handed dest limit (point ∷ points) made handed = (handed, tt)

  -- the turn of a destination has the batch that was handed over, and no other
  pub turn-handed : (dest limit : ℕ) (moved : Moved) (driven : Driven) (made : TakesMade) → IsHanded may_hand made dest limit moved.batch
      → AreHanded may_hand (steps_by dest (steps_of_turn limit moved driven)) made
  turn-handed dest limit moved driven made handed =
      let first = steps_of_batch limit moved.batch in
      let written = steps_of_write moved.count in
      let end = steps_of_end driven in
      let rest : HaveNoTakes (steps_by dest (written ++ end)) =
      subst HaveNoTakes (sym (map-append (λ (s : WriterStep). record { dest = dest; step = s }) written end))
      (no_takes-then (steps_by dest written) (steps_by dest end) (write-no_takes dest moved.count) (end-no_takes dest driven)) in
      subst (λ (steps : List DestStep). AreHanded may_hand steps made) (sym (map-append (λ (s : WriterStep). record { dest = dest; step = s }) first (written ++ end)))
      (handed-then (steps_by dest first) (steps_by dest (written ++ end)) made (batch-handed dest limit moved.batch made handed)
      (none-handed (steps_by dest (written ++ end)) (record_after_all (steps_by dest first) made) rest))

module _ (may_hand may_too : TakesMade → ℕ → ℕ → List Datapoint → Type 0)
    (also : (made : TakesMade) (dest limit : ℕ) (points : List Datapoint) → may_hand made dest limit points → may_too made dest limit points) where
  step-as : (dest : ℕ) (step : WriterStep) (made : TakesMade) → IsHandedStep may_hand dest step made → IsHandedStep may_too dest step made
  step-as dest UpStep made handed = tt
  step-as dest (TakeStep limit batch) made handed = also made dest limit batch handed
  step-as dest (WroteStep count) made handed = tt
  step-as dest DownStep made handed = tt

  -- what a supply hands over, one around it hands over too
  pub handed-as : (xs : List DestStep) (made : TakesMade) → AreHanded may_hand xs made → AreHanded may_too xs made
  handed-as [] made handed = tt
  handed-as (x ∷ xs) made handed = (step-as x.dest x.step made handed.0, handed-as xs (record_after_step x.dest x.step made) handed.1)
