-- What an outlet has recorded of the takes of a sender's steps.
use Rattle.std.proofs.Common.{◌≡◌, ◌≢◌, ◌<◌, ◌≤◌, ◌+◌, ◌^◌, ◌-◌, ℕ, zero, suc, true, false, ◌==◌, List, [], ◌∷◌, ◌++◌, length, map, filter, take, drop, refl, sym, ap, ◌∙◌, subst, inl, inr, arith, eq-eqb, get_or-set_same, get_or-set_other}
use Rattle.std.specs.Prelude.{nat_lt, slice_index, slice_set, if◌then◌else◌}
use Rattle.std.proofs.lemmas.Bool.{ne_eqb}
use Rattle.std.proofs.lemmas.Bool.Decides.{eqb_tells, nat_tests}
use Rattle.std.proofs.lemmas.List.{append-nil, append_assoc, length-append, length-set}
use Rattle.dest_queue.specs.History.{Replays}
use Rattle.dest_queue.specs.Queue.{Queue, queue_after_offer, queue_after_take}
use Rattle.dest_queue.specs.RecordedStep.{RecordedStep, Offered, Took}
use Rattle.dest_writer.specs.Writer.{WriterState}
use Rattle.line_text.specs.Datapoint.{Datapoint}
use Rattle.dest_writer.specs.Log.{Batch}
use Rattle.relay_core.specs.Weave.{takes_in_history}
use Rattle.queue_records.specs.Numbered.{step_of_take}
use Rattle.queue_records.specs.Offers.{most_entries}
use Rattle.queue_records.specs.TakenBatch.{take_of}
use Rattle.queue_records.specs.Takes.{TakeMade, TakesMade, after_take, saturating_sum}
use Rattle.queue_records.specs.declared.taken_batch.TakenBatch.{TakenBatch}
use Rattle.mio_loops.specs.WriterSteps.{WriterStep, UpStep, TakeStep, WroteStep, DownStep, AreAllowed, writer_after_step, record_after_step}
use Rattle.senders.specs.Laws.{takes_of}
use Rattle.senders.specs.Steps.{DestStep, steps_at, record_after_all}
use Rattle.senders.specs.Steps as sender
use Rattle.settled_run.specs.Settled as settled
use Rattle.settled_run.proofs.NumberedRecords.{either}

-- ---- takes of a destination, and how many points they return

abbrev pub batch_of : TakeMade → Batch
batch_of t = record { limit = t.limit; taken = t.taken }

abbrev pub batches_at : ℕ → List TakeMade → List Batch
batches_at d [] = []
batches_at d (t ∷ ts) = if t.dest == d then batch_of t ∷ batches_at d ts else batches_at d ts

abbrev pub points_in : List Batch → ℕ
points_in [] = 0
points_in (b ∷ bs) = b.taken + points_in bs

pub batches_at-append : (d : ℕ) (xs ys : List TakeMade) → batches_at d (xs ++ ys) ≡ batches_at d xs ++ batches_at d ys
batches_at-append d [] ys = refl
batches_at-append d (x ∷ xs) ys = elim (either (x.dest == d)) [
  | inl h ↦ rw h (ap (λ b. batch_of x ∷ b) (batches_at-append d xs ys))
  | inr h ↦ rw h (batches_at-append d xs ys)
]

pub points_in-append : (xs ys : List Batch) → points_in (xs ++ ys) ≡ points_in xs + points_in ys
points_in-append [] ys = omega arith
points_in-append (x ∷ xs) ys = omega (arith, points_in-append xs ys)

-- ---- the takes among the steps of a sender

abbrev pub take_made : ℕ → WriterStep → List TakeMade
take_made dest UpStep = []
take_made dest (TakeStep limit points) =
    if nat_lt 0 (length points) then record { dest = dest; limit = limit; taken = length points } ∷ [] else []
take_made dest (WroteStep count) = []
take_made dest DownStep = []

abbrev pub takes_made : List DestStep → List TakeMade
takes_made [] = []
takes_made (s ∷ steps) = take_made s.dest s.step ++ takes_made steps

pub record IsTaken (steps : List DestStep) (before after : TakesMade) : Type 0 where
  pub front : List TakeMade
  pub back : List TakeMade
  pub all : takes_made steps ≡ front ++ back
  pub entries : after.entries ≡ before.entries ++ front
  -- without room there are no more entries
  pub full : nat_lt (length before.entries) most_entries ≡ false → front ≡ []
  -- a total that is small is exact
  pub totals : (d : ℕ) → d < length before.totals → slice_index after.totals d ≤ most_entries
      → slice_index after.totals d ≡ slice_index before.totals d + points_in (batches_at d (takes_made steps))

true_is_not : true ≡ false → ⊥
true_is_not e = cc

saturating_sum_small : (total more : ℕ) → saturating_sum total more ≤ most_entries → saturating_sum total more ≡ total + more
saturating_sum_small total more few = elim (either (nat_lt (2 ^ 64 - 1) (total + more))) [
  | inl h ↦
      let top : saturating_sum total more ≡ 2 ^ 64 - 1 = rw h refl in
      absurd (omega (arith, top, few))
  | inr h ↦ rw h refl
]

total_of : (xs : List ℕ) (dest more d : ℕ) → d < length xs → slice_index (slice_set xs dest (saturating_sum (slice_index xs dest) more)) d ≤ most_entries
    → slice_index (slice_set xs dest (saturating_sum (slice_index xs dest) more)) d ≡ slice_index xs d + (if dest == d then more else 0)
total_of xs dest more d there few = elim (eqb_tells dest d) [
  | inl own ↦
      let is : slice_index (slice_set xs dest (saturating_sum (slice_index xs dest) more)) d ≡ saturating_sum (slice_index xs d) more =
      subst (λ k. slice_index (slice_set xs k (saturating_sum (slice_index xs k) more)) d ≡ saturating_sum (slice_index xs d) more) (sym own.1) (get_or-set_same xs d (saturating_sum (slice_index xs d) more) 0 there) in
      rw own.0 (is ∙ saturating_sum_small (slice_index xs d) more (subst (λ n. n ≤ most_entries) is few))
  | inr other ↦
      let apart : d ≢ dest = λ e. other.1 (sym e) in
      rw other.0 (get_or-set_other xs dest d (saturating_sum (slice_index xs dest) more) 0 apart ∙ omega arith)
]

module _ (dest limit count : ℕ) (steps : List DestStep) (before after : TakesMade) where
  abbrev one : TakeMade
  one = record { dest = dest; limit = limit; taken = count }

  -- one take more, before others
  more : nat_lt 0 count ≡ true → IsTaken steps (after_take dest limit count before) after
      → (front : List TakeMade) × (back : List TakeMade) × (one ∷ takes_made steps ≡ front ++ back)
      × (after.entries ≡ before.entries ++ front) × (nat_lt (length before.entries) most_entries ≡ false → front ≡ [])
  more some rest = elim (either (nat_lt (length before.entries) most_entries)) [
    | inl room ↦
        let entries : (after_take dest limit count before).entries ≡ before.entries ++ one ∷ [] = rw (some, room) refl in (
          one ∷ rest.front,
          rest.back,
          ap (λ ts. one ∷ ts) rest.all,
          rest.entries ∙ (ap (λ es. es ++ rest.front) entries ∙ append_assoc before.entries (one ∷ []) rest.front),
          λ none. absurd (true_is_not (sym room ∙ none)),
        )
    | inr none ↦
        let entries : (after_take dest limit count before).entries ≡ before.entries = rw (some, none) refl in
        let nothing : rest.front ≡ [] = rest.full (subst (λ es. nat_lt (length es) most_entries ≡ false) (sym entries) none) in (
          [],
          one ∷ takes_made steps,
          refl,
          rest.entries ∙ (ap (λ es. es ++ rest.front) entries ∙ ap (λ es. before.entries ++ es) nothing),
          λ e. refl,
        )
  ]

  more_total : nat_lt 0 count ≡ true → IsTaken steps (after_take dest limit count before) after
      → (d : ℕ) → d < length before.totals → slice_index after.totals d ≤ most_entries
      → slice_index after.totals d ≡ slice_index before.totals d + points_in (batches_at d (one ∷ takes_made steps))
  more_total some rest d there few =
      let totals : (after_take dest limit count before).totals ≡ slice_set before.totals dest (saturating_sum (slice_index before.totals dest) count) = rw some refl in
      let within : d < length (after_take dest limit count before).totals = subst (λ n. d < n) (sym (ap (λ ns. length ns) totals ∙ length-set before.totals dest (saturating_sum (slice_index before.totals dest) count))) there in
      let end_is = rest.totals d within few in
      let mid : slice_index (after_take dest limit count before).totals d ≤ most_entries = omega (arith, end_is, few) in
      let is : slice_index (after_take dest limit count before).totals d ≡ slice_index (slice_set before.totals dest (saturating_sum (slice_index before.totals dest) count)) d = ap (λ ns. slice_index ns d) totals in
      let step = total_of before.totals dest count d there (subst (λ n. n ≤ most_entries) is mid) in
      let points : points_in (batches_at d (one ∷ takes_made steps)) ≡ (if dest == d then count else 0) + points_in (batches_at d (takes_made steps)) = points_more d in
      omega (arith, end_is, is, step, points)
    where
      points_more : (d : ℕ) → points_in (batches_at d (one ∷ takes_made steps)) ≡ (if dest == d then count else 0) + points_in (batches_at d (takes_made steps))
      points_more d = elim (either (dest == d)) [
        | inl h ↦ rw h refl
        | inr h ↦ rw h (omega arith)
      ]

-- one step, before others that were recorded on from there
module _ (steps : List DestStep) (after : TakesMade) (further : (mid : TakesMade) → after ≡ record_after_all steps mid → IsTaken steps mid after) where
  unchanged : (dest : ℕ) (step : WriterStep) (before : TakesMade) → takes_made (record { dest = dest; step = step } ∷ steps) ≡ takes_made steps → IsTaken steps before after
      → IsTaken (record { dest = dest; step = step } ∷ steps) before after
  unchanged dest step before made rest =
      record {
        front = rest.front;
        back = rest.back;
        all = made ∙ rest.all;
        entries = rest.entries;
        full = rest.full;
        totals = λ d there few. rest.totals d there few ∙ ap (λ ts. slice_index before.totals d + points_in (batches_at d ts)) (sym made);
      }

  with_take : (dest limit : ℕ) (points : List Datapoint) (before : TakesMade) → after ≡ record_after_all steps (after_take dest limit (length points) before)
      → IsTaken (record { dest = dest; step = TakeStep limit points } ∷ steps) before after
  with_take dest limit points before is = elim (either (nat_lt 0 (length points))) [
    | inl some ↦
        let rest = further (after_take dest limit (length points) before) is in
        let parts = more dest limit (length points) steps before after some rest in
        let made : takes_made (record { dest = dest; step = TakeStep limit points } ∷ steps) ≡ one dest limit (length points) steps before after ∷ takes_made steps = rw some refl in
        record {
          front = parts.0;
          back = parts.1;
          all = made ∙ parts.2;
          entries = parts.3;
          full = parts.4;
          totals = λ d there few.
              more_total dest limit (length points) steps before after some rest d there few
              ∙ ap (λ ts. slice_index before.totals d + points_in (batches_at d ts)) (sym made);
        }
    | inr none ↦
        let same : after_take dest limit (length points) before ≡ before = rw none refl in
        unchanged dest (TakeStep limit points) before (rw none refl) (further before (is ∙ ap (record_after_all steps) same))
  ]

  by_step : (dest : ℕ) (step : WriterStep) (before : TakesMade) → after ≡ record_after_all steps (record_after_step dest step before)
      → IsTaken (record { dest = dest; step = step } ∷ steps) before after
  by_step dest UpStep before is = unchanged dest UpStep before refl (further before is)
  by_step dest (WroteStep count) before is = unchanged dest (WroteStep count) before refl (further before is)
  by_step dest DownStep before is = unchanged dest DownStep before refl (further before is)
  by_step dest (TakeStep limit points) before is = with_take dest limit points before is

pub taken : (steps : List DestStep) (before after : TakesMade) → after ≡ record_after_all steps before → IsTaken steps before after
taken [] before after is =
    record {
      front = [];
      back = [];
      all = refl;
      entries = ap (λ m. m.entries) is ∙ sym (append-nil before.entries);
      full = λ none. refl;
      totals = λ d there few. ap (λ m. slice_index m.totals d) is ∙ omega arith;
    }
taken (s ∷ steps) before after is = by_step steps after (λ mid same. taken steps mid after same) s.dest s.step before is

-- ---- the steps of one destination

-- if they are allowed, each take returns something
takes_at_dest : (d dest : ℕ) (step : WriterStep) (w : WriterState) → dest ≡ d → AreAllowed (step ∷ []) w → batches_at d (take_made dest step) ≡ takes_of (step ∷ [])
takes_at_dest d dest UpStep w is allowed = refl
takes_at_dest d dest (WroteStep count) w is allowed = refl
takes_at_dest d dest DownStep w is allowed = refl
takes_at_dest d dest (TakeStep limit points) w is allowed =
    let some : nat_lt 0 (length points) ≡ true = grind (arith, nat_tests, allowed.0.1) in
    rw (some, eq-eqb dest d is) refl

none_elsewhere : (d dest : ℕ) (step : WriterStep) → dest ≢ d → batches_at d (take_made dest step) ≡ []
none_elsewhere d dest UpStep apart = refl
none_elsewhere d dest (WroteStep count) apart = refl
none_elsewhere d dest DownStep apart = refl
none_elsewhere d dest (TakeStep limit points) apart = elim (either (nat_lt 0 (length points))) [
  | inl some ↦ rw (some, ne_eqb dest d apart) refl
  | inr none ↦ rw none refl
]

takes_of-cons : (step : WriterStep) (steps : List WriterStep) → takes_of (step ∷ steps) ≡ takes_of (step ∷ []) ++ takes_of steps
takes_of-cons UpStep steps = refl
takes_of-cons (TakeStep limit points) steps = refl
takes_of-cons (WroteStep count) steps = refl
takes_of-cons DownStep steps = refl

pub takes_of_steps : (d : ℕ) (steps : List DestStep) (w : WriterState) → AreAllowed (steps_at d steps) w → batches_at d (takes_made steps) ≡ takes_of (steps_at d steps)
takes_of_steps d [] w allowed = refl
takes_of_steps d (s ∷ steps) w allowed = elim (eqb_tells s.dest d) [
  | inl own ↦
      let here : AreAllowed (s.step ∷ steps_at d steps) w = rw own.0 at allowed in
      rw own.0
      (batches_at-append d (take_made s.dest s.step) (takes_made steps)
      ∙ (ap (λ bs. bs ++ batches_at d (takes_made steps)) (takes_at_dest d s.dest s.step w own.1 (here.0, tt))
      ∙ (ap (λ bs. takes_of (s.step ∷ []) ++ bs) (takes_of_steps d steps (writer_after_step s.step w) here.1) ∙ sym (takes_of-cons s.step (steps_at d steps)))))
  | inr other ↦
      let rest : AreAllowed (steps_at d steps) w = rw other.0 at allowed in
      rw other.0
      (batches_at-append d (take_made s.dest s.step) (takes_made steps)
      ∙ (ap (λ bs. bs ++ batches_at d (takes_made steps)) (none_elsewhere d s.dest s.step other.1) ∙ takes_of_steps d steps w rest))
]

pub limits_of_steps : (limit : ℕ) (steps : List WriterStep) → sender.HaveLimit limit steps → settled.HaveLimit limit (takes_of steps)
limits_of_steps limit [] have = tt
limits_of_steps limit (UpStep ∷ steps) have = limits_of_steps limit steps have
limits_of_steps limit (TakeStep own points ∷ steps) have = (have.0, limits_of_steps limit steps have.1)
limits_of_steps limit (WroteStep count ∷ steps) have = limits_of_steps limit steps have
limits_of_steps limit (DownStep ∷ steps) have = limits_of_steps limit steps have

-- ---- the entries of a closed outlet

pub takes_reported : (d : ℕ) (items : List TakenBatch)
    → takes_in_history (map (λ s. s.step) (filter (λ s. s.dest == d) (map (λ t. step_of_take (take_of t)) items))) ≡ batches_at d (map take_of items)
takes_reported d [] = refl
takes_reported d (t ∷ items) = elim (either (t.dest.0 == d)) [
  | inl h ↦ rw h (ap (λ b. batch_of (take_of t) ∷ b) (takes_reported d items))
  | inr h ↦ rw h (takes_reported d items)
]

-- ---- what a history returns

taken_after : (size : ℕ) (q end : Queue) (steps : List RecordedStep) → Replays size q steps end → end.taken ≡ q.taken + points_in (takes_in_history steps)
taken_after size q end [] replays = let e : q.taken ≡ end.taken = ap (λ k. k.taken) replays in omega (arith, e)
taken_after size q end (Offered reader number point kept ∷ steps) replays = omega (arith, taken_after size (queue_after_offer size reader point q) end steps replays.1)
taken_after size q end (Took limit count ∷ steps) replays = omega (arith, replays.0.0, taken_after size (queue_after_take limit q) end steps replays.1)

part : {A : Type 0} (n : ℕ) (xs : List A) → length (take n xs) + length (drop n xs) ≡ length xs
part zero xs = omega arith
part (suc n) [] = omega arith
part (suc n) (x ∷ xs) = omega (arith, part n xs)

one_point : (size reader : ℕ) (point : Datapoint) (q : Queue) → length (queue_after_offer size reader point q).points ≤ length q.points + 1
one_point size reader point q = elim (either (nat_lt (length q.points) size)) [
  | inl room ↦ rw room (omega (arith, length-append q.points (point ∷ [])))
  | inr none ↦ rw none (omega arith)
]

-- no more than its steps
taken_few : (size : ℕ) (q end : Queue) (steps : List RecordedStep) → Replays size q steps end → end.taken + length end.points ≤ q.taken + length q.points + length steps
taken_few size q end [] replays =
    let e : q.taken ≡ end.taken = ap (λ k. k.taken) replays in
    let p : length q.points ≡ length end.points = ap (λ k. length k.points) replays in omega (arith, e, p)
taken_few size q end (Offered reader number point kept ∷ steps) replays =
    omega (arith, one_point size reader point q, taken_few size (queue_after_offer size reader point q) end steps replays.1)
taken_few size q end (Took limit count ∷ steps) replays =
    omega (arith, part limit q.points, taken_few size (queue_after_take limit q) end steps replays.1)

pub points_handed : (size : ℕ) (q end : Queue) (steps : List RecordedStep) → Replays size q steps end → q.taken ≡ 0 → length q.points ≡ 0
    → (end.taken ≡ points_in (takes_in_history steps)) × (end.taken ≤ length steps)
points_handed size q end steps replays none empty = (omega (arith, taken_after size q end steps replays, none), omega (arith, taken_few size q end steps replays, none, empty))
