-- One step more is met.
use Rattle.std.proofs.Common.{◌≡◌, ◌<◌, ◌+◌, ℕ, false, inl, inr, List, [], ◌∷◌, ◌++◌, length, take, sym, ap, ◌∙◌, arith}
use Rattle.std.proofs.lemmas.Grind.{common_steps}
use Rattle.std.proofs.lemmas.Bool.Decides.{eqb_tells, nat_tests}
use Rattle.std.proofs.lemmas.List.{append-nil}
use Rattle.std.proofs.lemmas.List.Elements.{filter-append}
use Rattle.std.specs.Prelude.{◌==◌, slice_get, slice_index, slice_index_or, slice_set, Some}
use Rattle.dest_queue.specs.Numbered.{NumberedStep}
use Rattle.queue_records.specs.Numbered.{key_of, made_by}
use Rattle.queue_records.specs.Met.{AreMet}
use Rattle.queue_records.proofs.Places.{take_one_more}

-- a number of a list after one was written
index_same : (xs : List ℕ) (i y : ℕ) → i < length xs → slice_index (slice_set xs i y) i ≡ y
index_same xs i y within = grind (arith, common_steps)

index_other : (xs : List ℕ) (i j y : ℕ) → (i == j) ≡ false → slice_index (slice_set xs i y) j ≡ slice_index xs j
index_other xs i j y other = grind (arith, common_steps, nat_tests)

pub met_more : (readers : ℕ) (found : List (List NumberedStep)) (seen : List NumberedStep) (x : NumberedStep) (key place : ℕ) (reached : List ℕ)
    → key ≡ key_of readers x.dest x.step
    → key < length reached
    → slice_index reached key ≡ place
    → slice_get (slice_index_or found key []) place ≡ Some x
    → AreMet readers found seen reached
    → AreMet readers found (seen ++ x ∷ []) (slice_set reached key (place + 1))
met_more readers found seen x key place reached is within at step met = λ k lt.
    let split : made_by readers k (seen ++ x ∷ []) ≡ made_by readers k seen ++ made_by readers k (x ∷ []) = filter-append (λ y. key_of readers y.dest y.step == k) seen (x ∷ []) in
    elim (eqb_tells key k) [
      | inl own ↦
          let here : made_by readers k (x ∷ []) ≡ x ∷ [] = grind (arith, common_steps, nat_tests) in
          let reported : slice_index (slice_set reached key (place + 1)) k ≡ place + 1 = ap (λ j. slice_index (slice_set reached key (place + 1)) j) (sym own.1) ∙ index_same reached key (place + 1) within in
          let was : slice_index reached k ≡ place = ap (λ j. slice_index reached j) (sym own.1) ∙ at in
          let next : slice_get (slice_index_or found k []) place ≡ Some x = ap (λ j. slice_get (slice_index_or found j []) place) (sym own.1) ∙ step in
          split ∙ (ap (λ ys. made_by readers k seen ++ ys) here ∙ (ap (λ ys. ys ++ x ∷ []) (met k lt ∙ ap (λ n. take n (slice_index_or found k [])) was) ∙ (sym (take_one_more (slice_index_or found k []) place x next) ∙ ap (λ n. take n (slice_index_or found k [])) (sym reported))))
      | inr other ↦
          let none : made_by readers k (x ∷ []) ≡ [] = grind (arith, common_steps, nat_tests) in
          let reported : slice_index (slice_set reached key (place + 1)) k ≡ slice_index reached k = index_other reached key k (place + 1) other.0 in
          split ∙ (ap (λ ys. made_by readers k seen ++ ys) none ∙ (append-nil _ ∙ (met k lt ∙ ap (λ n. take n (slice_index_or found k [])) (sym reported))))
    ]
