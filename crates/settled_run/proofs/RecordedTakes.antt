-- The takes at a destination are in the record of its owner's outlet alone.
use Rattle.std.proofs.Common.{◌≡◌, ◌≢◌, ◌+◌, ◌*◌, ℕ, zero, suc, true, false, ◌==◌, List, [], ◌∷◌, ◌++◌, length, map, filter, refl, sym, ap, ◌∙◌, inl, inr, arith, eq-eqb, eqb-true}
use Rattle.std.specs.Prelude.{◌%◌}
use Rattle.std.proofs.lemmas.Bool.{ne_eqb}
use Rattle.std.proofs.lemmas.List.{map-append}
use Rattle.std.proofs.lemmas.List.Elements.{filter-append}
use Rattle.dest_queue.specs.RecordedStep.{RecordedStep, Offered, Took}
use Rattle.relay_core.specs.Logged.{HaveLimit}
use Rattle.dest_queue.specs.Numbered.{NumberedStep}
use Rattle.dest_writer.specs.Log.{Batch}
use Rattle.relay_core.specs.Weave.{takes_in_history}
use Rattle.queue_records.specs.Made.{offer_of}
use Rattle.queue_records.specs.Numbered.{StepAt, with_numbers, step_of_offer, step_of_take, made_by}
use Rattle.queue_records.specs.Strangers.{AreTakesOf}
use Rattle.queue_records.specs.TakenBatch.{take_of}
use Rattle.queue_records.specs.declared.made.Made.{Made}
use Rattle.queue_records.specs.declared.taken_batch.TakenBatch.{TakenBatch}
use Rattle.settled_run.specs.Settled as settled
use Rattle.settled_run.proofs.NumberedRecords.{AllSteps, either}

-- the takes at a destination among numbered steps
abbrev pub takes_at : ℕ → List NumberedStep → List Batch
takes_at d xs = takes_in_history (map (λ x. x.step) (filter (λ x. x.dest == d) xs))

takes-append : (xs ys : List RecordedStep) → takes_in_history (xs ++ ys) ≡ takes_in_history xs ++ takes_in_history ys
takes-append [] ys = refl
takes-append (Offered reader number point kept ∷ xs) ys = takes-append xs ys
takes-append (Took limit taken ∷ xs) ys = ap (λ b. record { limit = limit; taken = taken } ∷ b) (takes-append xs ys)

pub takes_at-append : (d : ℕ) (xs ys : List NumberedStep) → takes_at d (xs ++ ys) ≡ takes_at d xs ++ takes_at d ys
takes_at-append d xs ys =
    ap (λ a. takes_in_history (map (λ x. x.step) a)) (filter-append (λ x. x.dest == d) xs ys)
    ∙ (ap takes_in_history (map-append (λ x. x.step) (filter (λ x. x.dest == d) xs) (filter (λ x. x.dest == d) ys))
    ∙ takes-append (map (λ x. x.step) (filter (λ x. x.dest == d) xs)) (map (λ x. x.step) (filter (λ x. x.dest == d) ys)))

-- ---- doors take nothing, and outlets only what is theirs

pub doors_take_nothing : (d : ℕ) (items : List Made) (ns : List ℕ) → takes_at d (with_numbers (map (λ made. step_of_offer (offer_of made)) items) ns) ≡ []
doors_take_nothing d [] ns = refl
doors_take_nothing d (m ∷ items) [] = refl
doors_take_nothing d (m ∷ items) (n ∷ ns) = elim (either (m.dest.0 == d)) [
  | inl h ↦ rw h (doors_take_nothing d items ns)
  | inr h ↦ rw h (doors_take_nothing d items ns)
]

pub others_take_elsewhere : (dests senders k d : ℕ) (items : List TakenBatch) → AreTakesOf dests senders k items → d % senders ≢ k
    → AllSteps (λ y. (y.dest == d) ≡ false) (map (λ taken. step_of_take (take_of taken)) items)
others_take_elsewhere dests senders k d [] are apart = tt
others_take_elsewhere dests senders k d (t ∷ items) are apart =
    let own = are zero t refl in
    let other : t.dest.0 ≢ d = λ e. apart (ap (λ n. n % senders) (sym e) ∙ own.2) in
    (ne_eqb t.dest.0 d other, others_take_elsewhere dests senders k d items (λ i e at. are (suc i) e at) apart)

pub same_takes : (d : ℕ) (xs : List StepAt) (ns : List ℕ) → length ns ≡ length xs
    → takes_at d (with_numbers xs ns) ≡ takes_in_history (map (λ s. s.step) (filter (λ s. s.dest == d) xs))
same_takes d xs ns same = ap takes_in_history (steps xs ns same)
  where
    steps : (xs : List StepAt) (ns : List ℕ) → length ns ≡ length xs
        → map (λ x. x.step) (filter (λ x. x.dest == d) (with_numbers xs ns)) ≡ map (λ s. s.step) (filter (λ s. s.dest == d) xs)
    steps [] ns same = refl
    steps (x ∷ xs) [] same = absurd (omega (arith, same))
    steps (x ∷ xs) (n ∷ ns) same = elim (either (x.dest == d)) [
      | inl h ↦ rw h (ap (λ a. x.step ∷ a) (steps xs ns (omega (arith, same))))
      | inr h ↦ rw h (steps xs ns (omega (arith, same)))
    ]

-- ---- the takes at a destination have one key

pub takes_by_key : (readers d : ℕ) (xs : List NumberedStep) → takes_at d xs ≡ takes_at d (made_by readers ((readers + 1) * d + readers) xs)
takes_by_key readers d [] = refl
takes_by_key readers d (x ∷ xs) = one x.dest x.number x.step (takes_by_key readers d xs)
  where
    one : (dest number : ℕ) (s : RecordedStep) → takes_at d xs ≡ takes_at d (made_by readers ((readers + 1) * d + readers) xs)
        → takes_at d (record { dest = dest; number = number; step = s } ∷ xs)
        ≡ takes_at d (made_by readers ((readers + 1) * d + readers) (record { dest = dest; number = number; step = s } ∷ xs))
    one dest number (Offered reader own point kept) rest = elim (either (dest == d)) [
      | inl h ↦ elim (either ((readers + 1) * dest + reader == (readers + 1) * d + readers)) [
        | inl k ↦ rw (h, k, h) rest
        | inr k ↦ rw (h, k) rest
      ]
      | inr h ↦ elim (either ((readers + 1) * dest + reader == (readers + 1) * d + readers)) [
        | inl k ↦ rw (h, k, h) rest
        | inr k ↦ rw (h, k) rest
      ]
    ]
    one dest number (Took limit taken) rest = elim (either (dest == d)) [
      | inl h ↦
          let k : ((readers + 1) * dest + readers == (readers + 1) * d + readers) ≡ true =
          eq-eqb ((readers + 1) * dest + readers) ((readers + 1) * d + readers) (ap (λ n. (readers + 1) * n + readers) (eqb-true dest d h)) in
          rw (h, k, h) (ap (λ b. record { limit = limit; taken = taken } ∷ b) rest)
      | inr h ↦ elim (either ((readers + 1) * dest + readers == (readers + 1) * d + readers)) [
        | inl k ↦ rw (h, k, h) rest
        | inr k ↦ rw (h, k) rest
      ]
    ]

-- ---- limits

pub limits_of : (limit : ℕ) (steps : List RecordedStep) → settled.HaveLimit limit (takes_in_history steps) → HaveLimit limit steps
limits_of limit [] have = tt
limits_of limit (Offered reader number point kept ∷ steps) have = limits_of limit steps have
limits_of limit (Took own taken ∷ steps) have = (have.0, limits_of limit steps have.1)
