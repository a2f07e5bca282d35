-- The steps that an order gives, by their members.
use Rattle.std.proofs.Common.{◌≡◌, ◌<◌, ◌≤◌, ◌+◌, ℕ, zero, suc, Bool, true, false, List, [], ◌∷◌, ◌++◌, refl, sym, ap, ◌∙◌, inl, inr, filter, filter_map, map, Some, None, Option, arith, eq-eqb}
use Rattle.std.specs.Prelude.{◌⊎◌, slice_index_or}
use Rattle.std.specs.List.{find}
use Rattle.std.proofs.lemmas.Bool.Decides.{eqb_tells}
use Rattle.common_orders.specs.CommonOrder.{times, IsWithin, AreAllWithin}
use Rattle.dest_queue.specs.Numbered.{NumberedStep, numbers_of}
use Rattle.relay_core.proofs.Localities.{either}

-- ---- members

abbrev pub IsIn : NumberedStep → List NumberedStep → Type 0
IsIn x [] = ⊥
IsIn x (y ∷ ys) = (x ≡ y) ⊎ IsIn x ys

pub in_filter : (test : NumberedStep → Bool) (x : NumberedStep) (ys : List NumberedStep) → IsIn x ys → test x ≡ true → IsIn x (filter test ys)
in_filter test x [] within holds = absurd within
in_filter test x (y ∷ ys) (inl same) holds =
    let here : test y ≡ true = ap test (sym same) ∙ holds in rw here (inl same)
in_filter test x (y ∷ ys) (inr within) holds = elim (either (test y)) [
  | inl h ↦ rw h (inr (in_filter test x ys within holds))
  | inr h ↦ rw h (in_filter test x ys within holds)
]

pub filter_in : (test : NumberedStep → Bool) (x : NumberedStep) (ys : List NumberedStep) → IsIn x (filter test ys) → IsIn x ys × (test x ≡ true)
filter_in test x [] within = absurd within
filter_in test x (y ∷ ys) within = elim (either (test y)) [
  | inl h ↦
      let parts : (x ≡ y) ⊎ IsIn x (filter test ys) = rw h at within in
      elim parts [
        | inl same ↦ (inl same, ap test same ∙ h)
        | inr rest ↦ let further = filter_in test x ys rest in (inr further.0, further.1)
      ]
  | inr h ↦
      let rest : IsIn x (filter test ys) = rw h at within in
      let further = filter_in test x ys rest in (inr further.0, further.1)
]

pub find_in : (test : NumberedStep → Bool) (x : NumberedStep) (ys : List NumberedStep) → find test ys ≡ Some x → IsIn x ys × (test x ≡ true)
find_in test x [] found = absurd (cc)
find_in test x (y ∷ ys) found = elim (either (test y)) [
  | inl h ↦
      let same : Some y ≡ Some x = rw h at found in
      let own : y ≡ x = cc in
      (inl (sym own), ap test (sym own) ∙ h)
  | inr h ↦
      let rest : find test ys ≡ Some x = rw h at found in
      let further = find_in test x ys rest in (inr further.0, further.1)
]

pub in_times : (x : NumberedStep) (ys : List NumberedStep) → IsIn x ys → 0 < times x.number (numbers_of ys)
in_times x [] within = absurd within
in_times x (y ∷ ys) (inl same) = let e : y.number ≡ x.number = ap (λ k. k.number) (sym same) in rw (eq-eqb y.number x.number e) (omega arith)
in_times x (y ∷ ys) (inr within) = omega (arith, in_times x ys within)

-- ---- subsequences

within_more : (y : ℕ) (xs ys : List ℕ) → IsWithin xs ys → IsWithin xs (y ∷ ys)
within_more y [] ys w = tt
within_more y (x ∷ xs) ys w = inr w

within_times : (x : ℕ) (xs ys : List ℕ) → IsWithin xs ys → times x xs ≤ times x ys
within_times x [] ys w = omega arith
within_times x (z ∷ xs) [] w = absurd w
within_times x (z ∷ xs) (y ∷ ys) (inl w) =
    let same : times x (z ∷ xs) ≡ times x (y ∷ xs) = ap (λ k. times x (k ∷ xs)) w.0 in omega (arith, same, within_times x xs ys w.1)
within_times x (z ∷ xs) (y ∷ ys) (inr w) = omega (arith, within_times x (z ∷ xs) ys w)

pub within_filter : (test : NumberedStep → Bool) (xs : List NumberedStep) (ys : List ℕ) → IsWithin (numbers_of xs) ys → IsWithin (numbers_of (filter test xs)) ys
within_filter test [] ys w = tt
within_filter test (x ∷ xs) [] w = absurd w
within_filter test (x ∷ xs) (y ∷ ys) (inl w) = elim (either (test x)) [
  | inl h ↦ rw h (inl (w.0, within_filter test xs ys w.1))
  | inr h ↦ rw h (within_more y (numbers_of (filter test xs)) ys (within_filter test xs ys w.1))
]
within_filter test (x ∷ xs) (y ∷ ys) (inr w) = within_more y (numbers_of (filter test (x ∷ xs))) ys (within_filter test (x ∷ xs) ys w)

pub within_at : (ls more : List (List ℕ)) (ys : List ℕ) → AreAllWithin (ls ++ more) ys → AreAllWithin more ys
within_at [] more ys w = w
within_at (l ∷ ls) more ys w = within_at ls more ys w.1

pub within_record : (records : List (List NumberedStep)) (place : ℕ) (ys : List ℕ) → AreAllWithin (map numbers_of records) ys
    → IsWithin (numbers_of (slice_index_or records place [])) ys
within_record [] place ys w = tt
within_record (l ∷ records) zero ys w = w.0
within_record (l ∷ records) (suc place) ys w = within_record records place ys w.1

-- ---- what an order gives

module _ (pick : ℕ → Option NumberedStep) (test : NumberedStep → Bool) where
  -- what is within the order is selected, and passes
  abbrev pub ArePicked : List NumberedStep → Type 0
  ArePicked xs = (x : NumberedStep) → IsIn x xs → (pick x.number ≡ Some x) × (test x ≡ true)

  -- what is selected and passes is one of these
  abbrev pub AreAll : List NumberedStep → List ℕ → Type 0
  AreAll xs order = (n : ℕ) (x : NumberedStep) → 0 < times n order → pick n ≡ Some x → test x ≡ true → 0 < times n (numbers_of xs)

  skipped : (n : ℕ) (order : List ℕ) → ((x : NumberedStep) → pick n ≡ Some x → test x ≡ false) → filter test (filter_map pick (n ∷ order)) ≡ filter test (filter_map pick order)
  skipped n order none = by_case (pick n) refl
    where
      by_case : (o : Option NumberedStep) → pick n ≡ o → filter test (filter_map pick (n ∷ order)) ≡ filter test (filter_map pick order)
      by_case None e = rw e refl
      by_case (Some x) e = rw (e, none x e) refl

  pub picked_are : (xs : List NumberedStep) (order : List ℕ) → IsWithin (numbers_of xs) order → ArePicked xs → AreAll xs order → ((n : ℕ) → times n order ≤ 1)
      → filter test (filter_map pick order) ≡ xs
  picked_are [] [] w are all once = refl
  picked_are (x ∷ xs) [] w are all once = absurd w
  picked_are [] (n ∷ order) w are all once =
      skipped n order (λ x found. elim (either (test x)) [
        | inl h ↦ absurd (omega (arith, all n x (rw (eq-eqb n n refl) (omega arith)) found h))
        | inr h ↦ h
      ])
      ∙ picked_are [] order tt are (λ m x l found holds. all m x (omega (arith, l)) found holds) (λ m. omega (arith, once m))
  picked_are (x ∷ xs) (n ∷ order) (inl w) are all once =
      let here = are x (inl refl) in
      let found : pick n ≡ Some x = ap pick (sym w.0) ∙ here.0 in
      let own_times : times n (n ∷ order) ≡ 1 + times n order = rw (eq-eqb n n refl) refl in
      rw (found, here.1)
      (ap (λ ys. x ∷ ys)
      (picked_are xs order w.1 (λ y within. are y (inr within))
      (λ m y l picks holds. elim (eqb_tells x.number m) [
        | inl own ↦
            let gone : times m order ≡ times n order = ap (λ k. times k order) (sym own.1 ∙ w.0) in
            absurd (omega (arith, l, gone, own_times, once n))
        | inr other ↦
            let more : times m (numbers_of (x ∷ xs)) ≡ times m (numbers_of xs) = rw other.0 (omega arith) in
            omega (arith, all m y (omega (arith, l)) picks holds, more)
      ])
      (λ m. omega (arith, once m))))
  picked_are (x ∷ xs) (n ∷ order) (inr w) are all once =
      let own_times : times n (n ∷ order) ≡ 1 + times n order = rw (eq-eqb n n refl) refl in
      skipped n order (λ y found. elim (either (test y)) [
        | inl h ↦ absurd (omega (arith, all n y (omega (arith, own_times)) found h, within_times n (numbers_of (x ∷ xs)) order w, own_times, once n))
        | inr h ↦ h
      ])
      ∙ picked_are (x ∷ xs) order w are (λ m y l found holds. all m y (omega (arith, l)) found holds) (λ m. omega (arith, once m))
