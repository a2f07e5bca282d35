-- The offers of a reader are in the record of its receiver's door alone.
use Rattle.std.proofs.Common.{◌≡◌, ◌≢◌, ◌≤◌, ◌+◌, ◌*◌, ℕ, zero, suc, Bool, true, false, ◌==◌, List, [], ◌∷◌, ◌++◌, length, map, filter, refl, sym, ap, ◌∙◌, inl, inr, arith, eq-eqb, eqb-true}
use Rattle.std.specs.Prelude.{◌⊎◌, ◌&&◌, ◌/◌}
use Rattle.std.proofs.lemmas.Bool.{ne_eqb}
use Rattle.reader_core.specs.Record.{dispatches_of, all_dispatches}
use Rattle.dest_queue.specs.Numbered.{NumberedStep, is_offer_of, offers_of_reader, offers_at}
use Rattle.queue_records.specs.Made.{offer_of}
use Rattle.queue_records.specs.Numbered.{StepAt, with_number, with_numbers, step_of_offer, step_of_take, key_of, made_by}
use Rattle.queue_records.specs.Offers.{readers_each}
use Rattle.queue_records.specs.Strangers.{AreOffersOf}
use Rattle.queue_records.specs.TakenBatch.{take_of}
use Rattle.queue_records.specs.declared.made.Made.{Made}
use Rattle.queue_records.specs.declared.taken_batch.TakenBatch.{TakenBatch}
use Rattle.dest_queue.specs.RecordedStep.{RecordedStep, Offered, Took}
use Rattle.settled_run.proofs.NumberedRecords.{AllSteps, either}

and_false : (a b : Bool) → b ≡ false → (a && b) ≡ false
and_false true b e = e
and_false false b e = refl

false_and : (a b : Bool) → a ≡ false → (a && b) ≡ false
false_and a b e = rw e refl

-- ---- steps that are no offers of this reader, or at no such destination

pub no_offers_of : (dests k r : ℕ) (items : List Made) → AreOffersOf dests k items → r / readers_each ≢ k
    → AllSteps (λ y. is_offer_of r y.step ≡ false) (map (λ made. step_of_offer (offer_of made)) items)
no_offers_of dests k r [] are apart = tt
no_offers_of dests k r (m ∷ items) are apart =
    let own = are zero m refl in
    let other : m.reader ≢ r = λ e. apart (ap (λ n. n / readers_each) (sym e) ∙ own.1) in
    (ne_eqb m.reader r other, no_offers_of dests k r items (λ i e at. are (suc i) e at) apart)

pub no_offers_at : (dests k r d : ℕ) (items : List Made) → AreOffersOf dests k items → (r / readers_each ≢ k) ⊎ (dests ≤ d)
    → AllSteps (λ y. (is_offer_of r y.step && y.dest == d) ≡ false) (map (λ made. step_of_offer (offer_of made)) items)
no_offers_at dests k r d [] are apart = tt
no_offers_at dests k r d (m ∷ items) are (inl apart) =
    let own = are zero m refl in
    let other : m.reader ≢ r = λ e. apart (ap (λ n. n / readers_each) (sym e) ∙ own.1) in
    (false_and (m.reader == r) (m.dest.0 == d) (ne_eqb m.reader r other), no_offers_at dests k r d items (λ i e at. are (suc i) e at) (inl apart))
no_offers_at dests k r d (m ∷ items) are (inr past) =
    let own = are zero m refl in
    let other : m.dest.0 ≢ d = λ e. absurd (omega (arith, e, own.0, past)) in
    (and_false (m.reader == r) (m.dest.0 == d) (ne_eqb m.dest.0 d other), no_offers_at dests k r d items (λ i e at. are (suc i) e at) (inr past))

pub takes_are_none : (r : ℕ) (items : List TakenBatch) → AllSteps (λ y. is_offer_of r y.step ≡ false) (map (λ taken. step_of_take (take_of taken)) items)
takes_are_none r [] = tt
takes_are_none r (t ∷ items) = (refl, takes_are_none r items)

pub takes_are_none_at : (r d : ℕ) (items : List TakenBatch) → AllSteps (λ y. (is_offer_of r y.step && y.dest == d) ≡ false) (map (λ taken. step_of_take (take_of taken)) items)
takes_are_none_at r d [] = tt
takes_are_none_at r d (t ∷ items) = (refl, takes_are_none_at r d items)

-- ---- what is sent does not depend on numbers

pub same_dispatches : (r : ℕ) (xs : List StepAt) (ns : List ℕ) → length ns ≡ length xs
    → all_dispatches (offers_of_reader r (map (with_number 0) xs)) ≡ all_dispatches (offers_of_reader r (with_numbers xs ns))
same_dispatches r [] [] same = refl
same_dispatches r [] (n ∷ ns) same = refl
same_dispatches r (x ∷ xs) [] same = absurd (omega (arith, same))
same_dispatches r (x ∷ xs) (n ∷ ns) same = elim (either (is_offer_of r x.step)) [
  | inl h ↦ rw h (ap (λ a. dispatches_of x.dest x.step ++ a) (same_dispatches r xs ns (omega (arith, same))))
  | inr h ↦ rw h (same_dispatches r xs ns (omega (arith, same)))
]

pub same_count : (r : ℕ) (xs : List StepAt) (ns : List ℕ) → length ns ≡ length xs
    → length (offers_of_reader r (map (with_number 0) xs)) ≡ length (offers_of_reader r (with_numbers xs ns))
same_count r [] [] same = refl
same_count r [] (n ∷ ns) same = refl
same_count r (x ∷ xs) [] same = absurd (omega (arith, same))
same_count r (x ∷ xs) (n ∷ ns) same = elim (either (is_offer_of r x.step)) [
  | inl h ↦ rw h (ap (λ a. suc a) (same_count r xs ns (omega (arith, same))))
  | inr h ↦ rw h (same_count r xs ns (omega (arith, same)))
]

-- ---- a reader's offers at a destination are among the steps of one key

filtered_twice : {A : Type 0} (p q : A → Bool) (xs : List A) → ((x : A) → p x ≡ true → q x ≡ true) → filter p xs ≡ filter p (filter q xs)
filtered_twice p q [] more = refl
filtered_twice p q (x ∷ xs) more = elim (either (p x)) [
  | inl h ↦ let also : q x ≡ true = more x h in rw (h, also, h) (ap (λ a. x ∷ a) (filtered_twice p q xs more))
  | inr h ↦ elim (either (q x)) [
    | inl also ↦ rw (h, also, h) (filtered_twice p q xs more)
    | inr other ↦ rw (h, other) (filtered_twice p q xs more)
  ]
]

and_both : (a b : Bool) → (a && b) ≡ true → (a ≡ true) × (b ≡ true)
and_both true b e = (refl, e)
and_both false b e = absurd (cc)

has_key : (readers r d dest : ℕ) (s : RecordedStep) → (is_offer_of r s && dest == d) ≡ true → (key_of readers dest s == (readers + 1) * d + r) ≡ true
has_key readers r d dest (Offered reader number point kept) e =
    let both = and_both (reader == r) (dest == d) e in
    let own : reader ≡ r = eqb-true reader r both.0 in
    let here : dest ≡ d = eqb-true dest d both.1 in
    eq-eqb ((readers + 1) * dest + reader) ((readers + 1) * d + r) (ap (λ n. (readers + 1) * n + reader) here ∙ ap (λ n. (readers + 1) * d + n) own)
has_key readers r d dest (Took limit taken) e = absurd (cc)

pub offers_by_key : (readers r d : ℕ) (xs : List NumberedStep) → offers_at r d xs ≡ offers_at r d (made_by readers ((readers + 1) * d + r) xs)
offers_by_key readers r d xs =
    filtered_twice (λ x. is_offer_of r x.step && x.dest == d) (λ x. key_of readers x.dest x.step == (readers + 1) * d + r) xs
    (λ x e. has_key readers r d x.dest x.step e)
