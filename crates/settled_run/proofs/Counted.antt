-- Offers to a destination, counted reader by reader and all together.
use Rattle.std.proofs.Common.{◌≡◌, ◌≢◌, ◌<◌, ◌≤◌, ◌+◌, ◌*◌, ℕ, zero, suc, Bool, true, false, ◌==◌, List, [], ◌∷◌, ◌++◌, length, map, refl, ap, ◌∙◌, subst, inl, inr, arith, eq-eqb}
use Rattle.std.specs.Prelude.{◌&&◌, if◌then◌else◌, slice_get, slice_index_or, Some, sum_by}
use Rattle.std.proofs.lemmas.Bool.{ne_eqb, cases_lt}
use Rattle.std.proofs.lemmas.Bool.Decides.{eqb_tells}
use Rattle.std.proofs.lemmas.List.{length-append, length-set, length-replicate}
use Rattle.std.proofs.lemmas.List.Elements.{filter-append}
use Rattle.std.proofs.lemmas.List.Sums.{sum_by-cons}
use Rattle.dest_queue.specs.History.{Replays}
use Rattle.dest_queue.specs.Queue.{Queue, empty_queue, most_steps, queue_after_offer, queue_after_take}
use Rattle.dest_queue.specs.RecordedStep.{RecordedStep, Offered, Took}
use Rattle.dest_queue.specs.Numbered.{NumberedStep, numbered_from, all_numbered, is_offer_of, offers_at}
use Rattle.queue_records.specs.Made.{offer_of}
use Rattle.queue_records.specs.Numbered.{with_numbers, all_with_numbers, step_of_offer, step_of_take}
use Rattle.queue_records.specs.Records.{steps_of_door, steps_of_outlet}
use Rattle.queue_records.specs.declared.door_record.DoorRecord.{DoorRecord}
use Rattle.queue_records.specs.declared.made.Made.{Made}
use Rattle.queue_records.specs.declared.outlet_record.OutletRecord.{OutletRecord}
use Rattle.queue_records.specs.declared.taken_batch.TakenBatch.{TakenBatch}
use Rattle.queue_records.specs.TakenBatch.{take_of}
use Rattle.settled_run.proofs.Elements.{some_is, none_is_not}
use Rattle.settled_run.proofs.NumberedRecords.{either}
use Rattle.settled_run.proofs.OffersRecorded.{offered_as, count_to}

and_false : (a b : Bool) → b ≡ false → (a && b) ≡ false
and_false true b e = e
and_false false b e = refl

-- ---- sums over the first numbers

abbrev pub sum_to : ℕ → (ℕ → ℕ) → ℕ
sum_to zero f = 0
sum_to (suc n) f = f n + sum_to n f

sum_to_add : (n : ℕ) (f g h : ℕ → ℕ) → ((r : ℕ) → h r ≡ f r + g r) → sum_to n h ≡ sum_to n f + sum_to n g
sum_to_add zero f g h each = omega arith
sum_to_add (suc n) f g h each = omega (arith, each n, sum_to_add n f g h each)

pub sum_to_same : (n : ℕ) (f g : ℕ → ℕ) → ((r : ℕ) → r < n → f r ≡ g r) → sum_to n f ≡ sum_to n g
sum_to_same zero f g each = refl
sum_to_same (suc n) f g each = omega (arith, each n (omega arith), sum_to_same n f g (λ r l. each r (omega (arith, l))))

sum_to_zero : (n : ℕ) (f : ℕ → ℕ) → ((r : ℕ) → f r ≡ 0) → sum_to n f ≡ 0
sum_to_zero zero f each = refl
sum_to_zero (suc n) f each = omega (arith, each n, sum_to_zero n f each)

abbrev one_at : ℕ → ℕ → ℕ
one_at x r = if x == r then 1 else 0

none_below : (n x : ℕ) → n ≤ x → sum_to n (one_at x) ≡ 0
none_below zero x past = refl
none_below (suc n) x past =
    let here : one_at x n ≡ 0 = rw (ne_eqb x n (λ e. absurd (omega (arith, e, past)))) refl in
    omega (arith, here, none_below n x (omega (arith, past)))

one_below : (n x : ℕ) → x < n → sum_to n (one_at x) ≡ 1
one_below zero x there = absurd (omega (arith, there))
one_below (suc n) x there = elim (eqb_tells x n) [
  | inl own ↦
      let here : one_at x n ≡ 1 = rw own.0 refl in
      omega (arith, here, none_below n x (omega (arith, own.1)))
  | inr other ↦
      let here : one_at x n ≡ 0 = rw other.0 refl in
      omega (arith, here, one_below n x (omega (arith, other.1, there)))
]

-- ---- offers

abbrev pub is_offer : RecordedStep → Bool
is_offer (Offered reader number point kept) = true
is_offer (Took limit taken) = false

abbrev one_here : ℕ → ℕ → RecordedStep → ℕ
one_here d dest s = if is_offer s && dest == d then 1 else 0

-- how many offers there are to a destination
abbrev pub count_at : ℕ → List NumberedStep → ℕ
count_at d [] = 0
count_at d (y ∷ ys) = one_here d y.dest y.step + count_at d ys

pub count_at-append : (d : ℕ) (xs ys : List NumberedStep) → count_at d (xs ++ ys) ≡ count_at d xs + count_at d ys
count_at-append d [] ys = omega arith
count_at-append d (x ∷ xs) ys = omega (arith, count_at-append d xs ys)

-- how many of them are of a reader
abbrev pub count_of : ℕ → List NumberedStep → ℕ → ℕ
count_of d xs r = length (offers_at r d xs)

abbrev one_of : ℕ → ℕ → RecordedStep → ℕ → ℕ
one_of d dest s r = if is_offer_of r s && dest == d then 1 else 0

count_of_more : (d : ℕ) (y : NumberedStep) (ys : List NumberedStep) (r : ℕ) → count_of d (y ∷ ys) r ≡ one_of d y.dest y.step r + count_of d ys r
count_of_more d y ys r = elim (either (is_offer_of r y.step && y.dest == d)) [
  | inl h ↦ rw h (omega arith)
  | inr h ↦ rw h (omega arith)
]

one_step : (n d dest : ℕ) (s : RecordedStep) → sum_to n (one_of d dest s) ≤ one_here d dest s
one_step n d dest (Took limit taken) = let none : sum_to n (one_of d dest (Took limit taken)) ≡ 0 = sum_to_zero n (one_of d dest (Took limit taken)) (λ r. refl) in omega (arith, none)
one_step n d dest (Offered reader number point kept) = elim (either (dest == d)) [
  | inl h ↦
      let same : sum_to n (one_of d dest (Offered reader number point kept)) ≡ sum_to n (one_at reader) =
      sum_to_same n (one_of d dest (Offered reader number point kept)) (one_at reader) (λ r l. one_and r h) in
      let here : one_here d dest (Offered reader number point kept) ≡ 1 = rw h refl in
      elim (cases_lt reader n) [
        | inl there ↦ omega (arith, same, here, one_below n reader there)
        | inr past ↦ omega (arith, same, here, none_below n reader past)
      ]
  | inr h ↦
      let none : sum_to n (one_of d dest (Offered reader number point kept)) ≡ 0 = sum_to_zero n (one_of d dest (Offered reader number point kept)) (λ r. none_and r h) in
      omega (arith, none)
]
  where
    one_and : (r : ℕ) → (dest == d) ≡ true → one_of d dest (Offered reader number point kept) r ≡ one_at reader r
    one_and r h = elim (either (reader == r)) [
      | inl k ↦ rw (k, h) refl
      | inr k ↦ rw k refl
    ]

    none_and : (r : ℕ) → (dest == d) ≡ false → one_of d dest (Offered reader number point kept) r ≡ 0
    none_and r h = elim (either (reader == r)) [
      | inl k ↦ rw (k, h) refl
      | inr k ↦ rw k refl
    ]

-- no more are of the first readers than there are
pub few_counted : (n d : ℕ) (xs : List NumberedStep) → sum_to n (count_of d xs) ≤ count_at d xs
few_counted n d [] = let none : sum_to n (count_of d []) ≡ 0 = sum_to_zero n (count_of d []) (λ r. refl) in omega (arith, none)
few_counted n d (y ∷ ys) =
    omega (arith, sum_to_add n (one_of d y.dest y.step) (count_of d ys) (count_of d (y ∷ ys)) (count_of_more d y ys), one_step n d y.dest y.step, few_counted n d ys)

-- ---- the offers of a history

one_more : (n d dest first : ℕ) (s : RecordedStep) (steps : List RecordedStep)
    → sum_to n (count_of d (numbered_from dest first (s ∷ steps))) ≡ sum_to n (one_of d dest s) + sum_to n (count_of d (numbered_from dest (first + 1) steps))
one_more n d dest first s steps =
    sum_to_add n (one_of d dest s) (count_of d (numbered_from dest (first + 1) steps)) (count_of d (numbered_from dest first (s ∷ steps)))
    (count_of_more d (record { dest = dest; number = first; step = s }) (numbered_from dest (first + 1) steps))

-- this many were offered by the readers that there are
offered_after : (size n d first : ℕ) (q end : Queue) (steps : List RecordedStep) → length q.next ≡ n → Replays size q steps end
    → end.offered ≡ q.offered + sum_to n (count_of d (numbered_from d first steps))
offered_after size n d first q end [] count replays =
    let e : q.offered ≡ end.offered = ap (λ k. k.offered) replays in
    let none : sum_to n (count_of d []) ≡ 0 = sum_to_zero n (count_of d []) (λ r. refl) in
    omega (arith, e, none)
offered_after size n d first q end (Took limit taken ∷ steps) count replays =
    let none : sum_to n (one_of d d (Took limit taken)) ≡ 0 = sum_to_zero n (one_of d d (Took limit taken)) (λ r. refl) in
    omega (arith, none, one_more n d d first (Took limit taken) steps, offered_after size n d (first + 1) (queue_after_take limit q) end steps count replays.1)
offered_after size n d first q end (Offered reader number point kept ∷ steps) count replays =
    let same : sum_to n (one_of d d (Offered reader number point kept)) ≡ sum_to n (one_at reader) =
    sum_to_same n (one_of d d (Offered reader number point kept)) (one_at reader) (λ r l. alone r) in
    let there : reader < n = subst (λ k. reader < k) count replays.0.0.0 in
    omega (
      arith,
      same,
      one_below n reader there,
      one_more n d d first (Offered reader number point kept) steps,
      offered_after size n d (first + 1) (queue_after_offer size reader point q) end steps (length-set q.next reader _ ∙ count) replays.1,
    )
  where
    alone : (r : ℕ) → one_of d d (Offered reader number point kept) r ≡ one_at reader r
    alone r = elim (either (reader == r)) [
      | inl k ↦ rw (k, eq-eqb d d refl) refl
      | inr k ↦ rw k refl
    ]

count_of-append : (d : ℕ) (xs ys : List NumberedStep) (r : ℕ) → count_of d (xs ++ ys) r ≡ count_of d xs r + count_of d ys r
count_of-append d xs ys r =
    ap (λ zs. length zs) (filter-append (λ x. is_offer_of r x.step && x.dest == d) xs ys)
    ∙ length-append (offers_at r d xs) (offers_at r d ys)

count_elsewhere : (d dest first r : ℕ) (steps : List RecordedStep) → dest ≢ d → count_of d (numbered_from dest first steps) r ≡ 0
count_elsewhere d dest first r [] apart = refl
count_elsewhere d dest first r (s ∷ steps) apart =
    let none : (is_offer_of r s && dest == d) ≡ false = and_false (is_offer_of r s) (dest == d) (ne_eqb dest d apart) in
    rw none (count_elsewhere d dest (first + 1) r steps apart)

count_later : (d a r : ℕ) (histories : List (List RecordedStep)) → d < a → count_of d (all_numbered a histories) r ≡ 0
count_later d a r [] later = refl
count_later d a r (h ∷ histories) later =
    omega (
      arith,
      count_of-append d (numbered_from a (most_steps * a) h) (all_numbered (a + 1) histories) r,
      count_elsewhere d a (most_steps * a) r h (λ e. absurd (omega (arith, e, later))),
      count_later d (a + 1) r histories (omega (arith, later)),
    )

-- those of all histories to a destination are those of its own
count_of_all : (d a place r : ℕ) (histories : List (List RecordedStep)) → a + place ≡ d
    → count_of d (all_numbered a histories) r ≡ count_of d (numbered_from d (most_steps * d) (slice_index_or histories place [])) r
count_of_all d a place r [] is = refl
count_of_all d a zero r (h ∷ histories) is =
    let same : a ≡ d = omega (arith, is) in
    let own : count_of d (numbered_from a (most_steps * a) h) r ≡ count_of d (numbered_from d (most_steps * d) h) r =
    ap (λ k. count_of d (numbered_from k (most_steps * k) h) r) same in
    omega (arith, count_of-append d (numbered_from a (most_steps * a) h) (all_numbered (a + 1) histories) r, own, count_later d (a + 1) r histories (omega (arith, is)))
count_of_all d a (suc place) r (h ∷ histories) is =
    omega (
      arith,
      count_of-append d (numbered_from a (most_steps * a) h) (all_numbered (a + 1) histories) r,
      count_elsewhere d a (most_steps * a) r h (λ e. absurd (omega (arith, e, is))),
      count_of_all d (a + 1) place r histories (omega (arith, is)),
    )

pub offered_counted : (size readers d : ℕ) (end : Queue) (histories : List (List RecordedStep))
    → Replays size (empty_queue readers) (slice_index_or histories d []) end → end.offered ≡ sum_to readers (count_of d (all_numbered 0 histories))
offered_counted size readers d end histories replays =
    let own : end.offered ≡ 0 + sum_to readers (count_of d (numbered_from d (most_steps * d) (slice_index_or histories d []))) =
    offered_after size readers d (most_steps * d) (empty_queue readers) end (slice_index_or histories d []) (length-replicate readers 0) replays in
    let same = sum_to_same readers (count_of d (all_numbered 0 histories)) (count_of d (numbered_from d (most_steps * d) (slice_index_or histories d []))) (λ r l. count_of_all d 0 d r histories (omega arith)) in
    omega (arith, own, same)

-- ---- the offers of the records

-- how many entries of a door are to a destination
abbrev pub entries_to : ℕ → DoorRecord → ℕ
entries_to d door = count_to d (map offered_as (map offer_of door.made.items))

door_counted : (d : ℕ) (items : List Made) (ns : List ℕ) → count_at d (with_numbers (map (λ made. step_of_offer (offer_of made)) items) ns) ≤ count_to d (map offered_as (map offer_of items))
door_counted d [] ns = omega arith
door_counted d (m ∷ items) [] = omega arith
door_counted d (m ∷ items) (n ∷ ns) = omega (arith, door_counted d items ns)

outlet_counted : (d : ℕ) (items : List TakenBatch) (ns : List ℕ) → count_at d (with_numbers (map (λ taken. step_of_take (take_of taken)) items) ns) ≡ 0
outlet_counted d [] ns = refl
outlet_counted d (t ∷ items) [] = refl
outlet_counted d (t ∷ items) (n ∷ ns) = omega (arith, outlet_counted d items ns)

outlets_counted : (d : ℕ) (outlets : List OutletRecord) (nss : List (List ℕ)) → count_at d (all_with_numbers (map steps_of_outlet outlets) nss) ≡ 0
outlets_counted d [] nss = refl
outlets_counted d (o ∷ outlets) [] = refl
outlets_counted d (o ∷ outlets) (ns ∷ nss) =
    omega (
      arith,
      count_at-append d (with_numbers (steps_of_outlet o) ns) (all_with_numbers (map steps_of_outlet outlets) nss),
      outlet_counted d o.takes.items ns,
      outlets_counted d outlets nss,
    )

pub recorded_counted : (d : ℕ) (doors : List DoorRecord) (outlets : List OutletRecord) (nss : List (List ℕ))
    → count_at d (all_with_numbers (map steps_of_door doors ++ map steps_of_outlet outlets) nss) ≤ sum_by (entries_to d) doors
recorded_counted d [] outlets nss = omega (arith, outlets_counted d outlets nss)
recorded_counted d (r ∷ doors) outlets [] = omega arith
recorded_counted d (r ∷ doors) outlets (ns ∷ nss) =
    omega (
      arith,
      count_at-append d (with_numbers (steps_of_door r) ns) (all_with_numbers (map steps_of_door doors ++ map steps_of_outlet outlets) nss),
      door_counted d r.made.items ns,
      recorded_counted d doors outlets nss,
      sum_by-cons (entries_to d) r doors,
    )

-- ---- sums that meet do so at each place

sums_below : {A : Type 0} (f g : A → ℕ) (xs : List A) → ((i : ℕ) (a : A) → slice_get xs i ≡ Some a → f a ≤ g a) → sum_by f xs ≤ sum_by g xs
sums_below f g [] below = omega arith
sums_below f g (a ∷ xs) below = omega (arith, sum_by-cons f a xs, sum_by-cons g a xs, below zero a refl, sums_below f g xs (λ i b at. below (suc i) b at))

pub sums_meet : {A : Type 0} (f g : A → ℕ) (xs : List A) → ((i : ℕ) (a : A) → slice_get xs i ≡ Some a → f a ≤ g a) → sum_by g xs ≤ sum_by f xs
    → (i : ℕ) (a : A) → slice_get xs i ≡ Some a → g a ≡ f a
sums_meet f g [] below all i a at = absurd (none_is_not a at)
sums_meet f g (b ∷ xs) below all zero a at =
    let rest = sums_below f g xs (λ i c at. below (suc i) c at) in
    let own : g b ≡ f b = omega (arith, rest, below zero b refl, all, sum_by-cons f b xs, sum_by-cons g b xs) in
    subst (λ c. g c ≡ f c) (some_is b a at) own
sums_meet f g (b ∷ xs) below all (suc i) a at =
    sums_meet f g xs (λ k c at. below (suc k) c at) (omega (arith, below zero b refl, all, sum_by-cons f b xs, sum_by-cons g b xs)) i a at
