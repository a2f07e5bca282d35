-- The steps of an order, and the histories that they are of.
use Rattle.std.proofs.Common.{◌≡◌, ◌≢◌, ◌<◌, ◌+◌, ℕ, Vec, Global, Option, Some, None, Bool, true, false, cond, ◌==◌, List, [], ◌∷◌, ◌++◌, length, map, take, set, get_or, replicate, filter, slice_get, arith, inl, inr, refl, sym, ap, subst, ◌∙◌}
use Rattle.std.proofs.lemmas.Bool.{cases_eq, cases_lt}
use Rattle.std.proofs.lemmas.Bool.Decides.{nat_tests}
use Rattle.std.proofs.lemmas.List.{append-nil, get_or-set_same, get_or-set_other, get_or-replicate, get_or_past, length-replicate, map-append, take_all, take_more}
use Rattle.std.proofs.lemmas.List.Elements.{filter-append}
use Rattle.std.proofs.lemmas.Option.{slice_get-map, slice_get_past, slice_get_within, get_or_from_slice_get}
use Rattle.std.specs.Prelude.{◌/◌, ◌%◌}
use Rattle.dest_queue.specs.Queue.{most_steps}
use Rattle.dest_queue.specs.RecordedStep.{RecordedStep}
use Rattle.dest_queue.specs.Step.{recorded_of}
use Rattle.dest_queue.specs.declared.step.Step.{Step}
use Rattle.queue_records.specs.Numbered.{StepAt}
use Rattle.run_record.specs.QueueSteps.{step_there, step_at, step_numbered, steps_numbered, recorded_there, history_at, steps_at, AreUpTo, AreHistories}
use Rattle.run_record.proofs.Lists.{next-numbered}

-- ---- the step of a number

some-same : {X : Type 0} (x y : X) → Some x ≡ Some y → x ≡ y
some-same x y e = cc

there-is : (dest place : ℕ) (items : List Step) (o : Option Step) (x : StepAt) → slice_get items place ≡ o → step_there dest o ≡ Some x
    → (x.dest ≡ dest) × (slice_get (map recorded_of items) place ≡ Some x.step)
there-is dest place items None x got e = cc
there-is dest place items (Some step) x got e =
    let same : x ≡ record { dest = dest; step = recorded_of step } = sym (some-same _ x e) in
    let found : slice_get (map recorded_of items) place ≡ Some (recorded_of step) = rw (slice_get-map, got) refl in
    (ap (λ (y : StepAt). y.dest) same, found ∙ ap (λ (y : StepAt). Some y.step) (sym same))

at-is : (dest place : ℕ) (o : Option (Vec Step Global)) (x : StepAt) → step_at dest place o ≡ Some x → (x.dest ≡ dest) × (slice_get (recorded_there o) place ≡ Some x.step)
at-is dest place None x e = cc
at-is dest place (Some history) x e = there-is dest place history.items (slice_get history.items place) x refl e

-- ---- one step more

other-steps : (d : ℕ) (steps : List StepAt) (x : StepAt) → x.dest ≢ d → steps_at d (steps ++ x ∷ []) ≡ steps_at d steps
other-steps d steps x other =
    let no : (x.dest == d) ≡ false = grind (arith, nat_tests) in
    ap (λ (l : List StepAt). map (λ (y : StepAt). y.step) l)
    (filter-append (λ (y : StepAt). y.dest == d) steps (x ∷ [])
    ∙ ap (λ (b : Bool). filter (λ (y : StepAt). y.dest == d) steps ++ cond b (x ∷ []) []) no
    ∙ append-nil (filter (λ (y : StepAt). y.dest == d) steps))

own-steps : (d : ℕ) (steps : List StepAt) (x : StepAt) → x.dest ≡ d → steps_at d (steps ++ x ∷ []) ≡ steps_at d steps ++ x.step ∷ []
own-steps d steps x own =
    let yes : (x.dest == d) ≡ true = grind (arith, nat_tests) in
    ap (λ (l : List StepAt). map (λ (y : StepAt). y.step) l)
    (filter-append (λ (y : StepAt). y.dest == d) steps (x ∷ [])
    ∙ ap (λ (b : Bool). filter (λ (y : StepAt). y.dest == d) steps ++ cond b (x ∷ []) []) yes)
    ∙ map-append (λ (y : StepAt). y.step) (filter (λ (y : StepAt). y.dest == d) steps) (x ∷ [])

longer : (xs : List RecordedStep) (place : ℕ) (x : RecordedStep) → slice_get xs place ≡ Some x → take place xs ++ x ∷ [] ≡ take (place + 1) xs
longer xs place x got =
    ap (λ (y : RecordedStep). take place xs ++ y ∷ []) (sym (get_or_from_slice_get xs place x x got)) ∙ sym (take_more xs place x (slice_get_within xs place x got))

pub up-to-more : (histories : List (Vec Step Global)) (order places moved : List ℕ) (i dest place : ℕ) (x : StepAt) → i < length order
    → step_numbered histories (get_or order i 0) ≡ Some x → dest ≡ get_or order i 0 / most_steps → place ≡ get_or order i 0 % most_steps → dest < length places
    → get_or places dest 0 ≡ place → moved ≡ set places dest (place + 1)
    → AreUpTo histories places (steps_numbered histories (take i order)) → AreUpTo histories moved (steps_numbered histories (take (i + 1) order))
up-to-more histories order places moved i dest place x below found at_dest at_place within here moves up d =
    let number = get_or order i 0 in
    let is = at-is (number / most_steps) (number % most_steps) (slice_get histories (number / most_steps)) x found in
    let steps = steps_numbered histories (take i order) in
    let own_dest : x.dest ≡ dest = is.0 ∙ sym at_dest in
    let got : slice_get (history_at histories dest) place ≡ Some x.step =
    rw (at_dest, at_place) is.1 in
    let one : steps_at d (steps_numbered histories (take i order) ++ x ∷ []) ≡ take (get_or moved d 0) (history_at histories d) =
    elim (cases_eq d dest) [
      | inl same ↦
          own-steps d steps x (own_dest ∙ sym same)
          ∙ ap (λ (l : List RecordedStep). l ++ x.step ∷ []) (up d)
          ∙ subst (λ (n : ℕ). take (get_or places n 0) (history_at histories n) ++ x.step ∷ [] ≡ take (get_or moved n 0) (history_at histories n)) (sym same)
          (ap (λ (n : ℕ). take n (history_at histories dest) ++ x.step ∷ []) here
          ∙ longer (history_at histories dest) place x.step got
          ∙ ap (λ (n : ℕ). take n (history_at histories dest))
          (sym (ap (λ (l : List ℕ). get_or l dest 0) moves ∙ get_or-set_same places dest (place + 1) 0 within)))
      | inr other ↦
          other-steps d steps x (λ e. other (sym e ∙ own_dest))
          ∙ up d
          ∙ ap (λ (n : ℕ). take n (history_at histories d))
          (sym (ap (λ (l : List ℕ). get_or l d 0) moves ∙ get_or-set_other places dest d (place + 1) 0 other))
    ] in
    ap (λ (l : List StepAt). steps_at d l) (sym (next-numbered histories order i x below found)) ∙ one

pub up-to-none : (histories : List (Vec Step Global)) (places : List ℕ) (count : ℕ) → places ≡ replicate count 0 → AreUpTo histories places []
up-to-none histories places count zeros d =
    let zero_there : get_or places d 0 ≡ 0 =
    ap (λ (l : List ℕ). get_or l d 0) zeros
    ∙ elim (cases_lt d count) [
      | inl below ↦ get_or-replicate count d 0 0 below
      | inr above ↦ get_or_past (replicate count 0) d 0 (omega (arith, length-replicate {A = ℕ}))
    ] in
    ap (λ (n : ℕ). take n (history_at histories d)) (sym zero_there)

-- ---- all steps

take-nothing : (n : ℕ) → take {A = RecordedStep} n [] ≡ []
take-nothing n = take_all n [] (omega arith)

pub up-to-all : (histories : List (Vec Step Global)) (places : List ℕ) (steps : List StepAt) → AreUpTo histories places steps
    → ((d : ℕ) → d < length histories → get_or places d 0 ≡ length (history_at histories d)) → AreHistories histories steps
up-to-all histories places steps up ends d =
    up d ∙ elim (cases_lt d (length histories)) [
      | inl below ↦ take_all (get_or places d 0) (history_at histories d) (omega (arith, ends d below))
      | inr above ↦
          let none : history_at histories d ≡ [] = ap recorded_there (slice_get_past histories d above) in
          ap (λ (l : List RecordedStep). take (get_or places d 0) l) none ∙ take-nothing (get_or places d 0) ∙ sym none
    ]
