-- What is placed: which steps of queues each part has, and that its reader or destination exists.
use Rattle.std.proofs.Common.{◌≡◌, ◌<◌, ◌+◌, ℕ, zero, suc, true, ◌==◌, if◌then◌else◌, List, [], ◌∷◌, ◌++◌, length, refl, sym, ap, ◌∙◌, subst, inl, inr, filter, map, flat_map, take, drop, eq-eqb}
use Rattle.std.proofs.lemmas.Bool.{ne_eqb, false≢true}
use Rattle.std.proofs.lemmas.Bool.Decides.{eqb_tells}
use Rattle.std.proofs.lemmas.List.{length-set, take-append-drop}
use Rattle.std.proofs.lemmas.List.Elements.{filter-append}
use Rattle.dest_queue.specs.Queue.{Queue}
use Rattle.dest_queue.specs.RecordedStep.{RecordedStep, Offered, Took}
use Rattle.dest_queue.specs.History.{Replays, queue_after_recorded}
use Rattle.reader_core.specs.Input.{Stream}
use Rattle.reader_core.specs.Reading.{Reading}
use Rattle.reader_core.specs.Configuration.{Configuration}
use Rattle.reader_core.specs.Entries.{InputEntry, input_after_entry}
use Rattle.reader_core.specs.declared.kind.ReaderKind.{ReaderKind}
use Rattle.dest_writer.specs.Log.{LogEntry, UpEntry, TakeEntry, WroteEntry, DownEntry, Batch, takes_in_log}
use Rattle.relay_core.specs.Weave.{Taking, takes_in_history, queue_steps}
use Rattle.dest_queue.specs.Numbered.{NumberedStep, numbered_from, is_offer_of, offers_of_reader}
use Rattle.relay_core.specs.RunOfOrder.{placed_of, Placed, Stepping, Part, OfReader, OfWriter, part_of, is_of_queue, before_step, behind_step, left_behind, placed_by, given_by, own_of_reader, own_of_writer, step_of_recorded, is_same}
use Rattle.relay_core.proofs.Localities.{either, own_at, woven_at, IsThere, AreThere}
use Rattle.relay_core.proofs.Placing.{is_same_decides, AreOf, AreSteps, queue_steps_in}
use Rattle.relay_core.proofs.Entering.{AreOffers}
use Rattle.relay_core.proofs.Members.{IsIn}

-- ---- recorded steps, placed

recorded_is_step : (d : ℕ) (step : RecordedStep) → is_of_queue (Stepping d (step_of_recorded step)) ≡ true
recorded_is_step d (Offered reader number point kept) = refl
recorded_is_step d (Took limit taken) = refl

pub all_steps : (xs : List NumberedStep) → AreSteps (map placed_of xs)
all_steps [] = tt
all_steps (x ∷ xs) = (recorded_is_step x.dest x.step, all_steps xs)

steps_same : (xs : List Placed) → AreSteps xs → queue_steps_in xs ≡ xs
steps_same [] are = refl
steps_same (x ∷ xs) are = rw are.0 (ap (λ ys. x ∷ ys) (steps_same xs are.1))

pub steps_take : (n : ℕ) (xs : List Placed) → AreSteps xs → AreSteps (take n xs)
steps_take zero xs are = tt
steps_take (suc n) [] are = tt
steps_take (suc n) (x ∷ xs) are = (are.0, steps_take n xs are.1)

pub steps_drop : (n : ℕ) (xs : List Placed) → AreSteps xs → AreSteps (drop n xs)
steps_drop zero xs are = are
steps_drop (suc n) [] are = tt
steps_drop (suc n) (x ∷ xs) are = steps_drop n xs are.1

pub are_offers : (r : ℕ) (xs : List NumberedStep) → AreOffers r (offers_of_reader r xs)
are_offers r [] = tt
are_offers r (x ∷ xs) = elim (either (is_offer_of r x.step)) [
  | inl h ↦ rw h (h, are_offers r xs)
  | inr h ↦ rw h (are_offers r xs)
]

-- ---- the steps of a reader, of a writer, and of a destination

reader_of_recorded : (r d : ℕ) (step : RecordedStep) → is_same (OfReader r) (part_of (Stepping d (step_of_recorded step))) ≡ is_offer_of r step
reader_of_recorded r d (Offered reader number point kept) = elim (eqb_tells reader r) [
  | inl own ↦ eq-eqb r reader (sym own.1) ∙ sym own.0
  | inr other ↦ ne_eqb r reader (λ e. other.1 (sym e)) ∙ sym other.0
]
reader_of_recorded r d (Took limit taken) = refl

pub reader_steps : (r : ℕ) (xs : List NumberedStep) → own_at (OfReader r) (map placed_of xs) ≡ map placed_of (offers_of_reader r xs)
reader_steps r [] = refl
reader_steps r (x ∷ xs) = elim (either (is_offer_of r x.step)) [
  | inl h ↦ rw (reader_of_recorded r x.dest x.step, h) (ap (λ ys. placed_of x ∷ ys) (reader_steps r xs))
  | inr h ↦ rw (reader_of_recorded r x.dest x.step, h) (reader_steps r xs)
]

abbrev pub taken_at : ℕ → Batch → Placed
taken_at d b = Stepping d (Taking b.limit b.taken)

pub takes_of_log : (d : ℕ) (log : List LogEntry) → queue_steps_in (own_of_writer d log) ≡ map (taken_at d) (takes_in_log log)
takes_of_log d [] = refl
takes_of_log d (UpEntry ∷ log) = takes_of_log d log
takes_of_log d (TakeEntry limit taken ∷ log) = ap (λ ys. Stepping d (Taking limit taken) ∷ ys) (takes_of_log d log)
takes_of_log d (WroteEntry count ∷ log) = takes_of_log d log
takes_of_log d (DownEntry ∷ log) = takes_of_log d log

-- the recorded steps at a destination
abbrev pub recorded_at : ℕ → List NumberedStep → List RecordedStep
recorded_at d xs = map (λ x. x.step) (filter (λ x. x.dest == d) xs)

pub writer_steps_in : (d : ℕ) (xs : List NumberedStep) → own_at (OfWriter d) (map placed_of xs) ≡ map (taken_at d) (takes_in_history (recorded_at d xs))
writer_steps_in d [] = refl
writer_steps_in d (x ∷ xs) = one x.dest x.step (writer_steps_in d xs)
  where
    one : (e : ℕ) (step : RecordedStep) → own_at (OfWriter d) (map placed_of xs) ≡ map (taken_at d) (takes_in_history (recorded_at d xs))
        → own_at (OfWriter d) (Stepping e (step_of_recorded step) ∷ map placed_of xs)
        ≡ map (taken_at d) (takes_in_history (map (λ x. x.step) (if e == d then record { dest = e; number = x.number; step = step } ∷ filter (λ x. x.dest == d) xs else filter (λ x. x.dest == d) xs)))
    one e (Offered reader number point kept) h = elim (either (e == d)) [
      | inl same ↦ rw same h
      | inr other ↦ rw other h
    ]
    one e (Took limit taken) h = elim (eqb_tells e d) [
      | inl own ↦ rw (own.0, eq-eqb d e (sym own.1)) (rw own.1 (ap (λ ys. Stepping d (Taking limit taken) ∷ ys) h))
      | inr other ↦ rw (other.0, ne_eqb d e (λ k. other.1 (sym k))) h
    ]

pub queue_steps_at : (d : ℕ) (xs : List NumberedStep) → queue_steps (woven_at d (map placed_of xs)) ≡ recorded_at d xs
queue_steps_at d [] = refl
queue_steps_at d (x ∷ xs) = one x.dest x.step (queue_steps_at d xs)
  where
    one : (e : ℕ) (step : RecordedStep) → queue_steps (woven_at d (map placed_of xs)) ≡ recorded_at d xs
        → queue_steps (woven_at d (Stepping e (step_of_recorded step) ∷ map placed_of xs))
        ≡ map (λ x. x.step) (if e == d then record { dest = e; number = x.number; step = step } ∷ filter (λ x. x.dest == d) xs else filter (λ x. x.dest == d) xs)
    one e (Offered reader number point kept) h = elim (either (e == d)) [
      | inl same ↦ rw same (ap (λ ys. Offered reader number point kept ∷ ys) h)
      | inr other ↦ rw other h
    ]
    one e (Took limit taken) h = elim (either (e == d)) [
      | inl same ↦ rw same (ap (λ ys. Took limit taken ∷ ys) h)
      | inr other ↦ rw other h
    ]

pub steps_of_ordered : (dest n : ℕ) (steps : List RecordedStep) → map (λ x. x.step) (numbered_from dest n steps) ≡ steps
steps_of_ordered dest n [] = refl
steps_of_ordered dest n (step ∷ steps) = ap (λ ys. step ∷ ys) (steps_of_ordered dest (n + 1) steps)

-- ---- a reader's own

are_of_take : (p : Part) (n : ℕ) (xs : List Placed) → AreOf p xs → AreOf p (take n xs)
are_of_take p zero xs of = tt
are_of_take p (suc n) [] of = tt
are_of_take p (suc n) (x ∷ xs) of = (of.0, are_of_take p n xs of.1)

are_of_drop : (p : Part) (n : ℕ) (xs : List Placed) → AreOf p xs → AreOf p (drop n xs)
are_of_drop p zero xs of = of
are_of_drop p (suc n) [] of = tt
are_of_drop p (suc n) (x ∷ xs) of = are_of_drop p n xs of.1

are_of_append : (p : Part) (xs ys : List Placed) → AreOf p xs → AreOf p ys → AreOf p (xs ++ ys)
are_of_append p [] ys of more = more
are_of_append p (x ∷ xs) ys of more = (of.0, are_of_append p xs ys of.1 more)

pub offers_of_part : (r : ℕ) (xs : List NumberedStep) → AreOffers r xs → AreOf (OfReader r) (map placed_of xs)
offers_of_part r [] are = tt
offers_of_part r (x ∷ xs) are = (
  elim (is_same_decides (OfReader r) (part_of (placed_of x))) [
    | inl own ↦ sym own.1
    | inr other ↦ absurd (false≢true (sym other.0 ∙ (reader_of_recorded r x.dest x.step ∙ are.0)))
  ],
  offers_of_part r xs are.1,
)

there_take : (readers dests n : ℕ) (xs : List Placed) → AreThere readers dests xs → AreThere readers dests (take n xs)
there_take readers dests zero xs there = tt
there_take readers dests (suc n) [] there = tt
there_take readers dests (suc n) (x ∷ xs) there = (there.0, there_take readers dests n xs there.1)

there_drop : (readers dests n : ℕ) (xs : List Placed) → AreThere readers dests xs → AreThere readers dests (drop n xs)
there_drop readers dests zero xs there = there
there_drop readers dests (suc n) [] there = tt
there_drop readers dests (suc n) (x ∷ xs) there = there_drop readers dests n xs there.1

there_append : (readers dests : ℕ) (xs ys : List Placed) → AreThere readers dests xs → AreThere readers dests ys → AreThere readers dests (xs ++ ys)
there_append readers dests [] ys there more = more
there_append readers dests (x ∷ xs) ys there more = (there.0, there_append readers dests xs ys there.1 more)

module _ (reading : Reading) (c : Configuration) (r : ℕ) (kind : ReaderKind) where
  pub steps_of_reader : (input : List Stream) (entries : List InputEntry) (offers : List Placed) → AreSteps offers
      → queue_steps_in (own_of_reader reading c r kind input entries offers) ≡ offers
  steps_of_reader input [] offers are = steps_same offers are
  steps_of_reader input (entry ∷ entries) offers are =
      let n = given_by reading c kind input entry in
      filter-append is_of_queue (take n offers) (own_of_reader reading c r kind (input_after_entry kind entry input) entries (drop n offers))
      ∙ (ap (λ ys. ys ++ queue_steps_in (own_of_reader reading c r kind (input_after_entry kind entry input) entries (drop n offers))) (steps_same (take n offers) (steps_take n offers are))
      ∙ (ap (λ ys. take n offers ++ ys) (steps_of_reader (input_after_entry kind entry input) entries (drop n offers) (steps_drop n offers are))
      ∙ take-append-drop n offers))

  pub own_of_part : (input : List Stream) (entries : List InputEntry) (offers : List Placed) → AreOf (OfReader r) offers
      → AreOf (OfReader r) (own_of_reader reading c r kind input entries offers)
  own_of_part input [] offers of = of
  own_of_part input (entry ∷ entries) offers of =
      let n = given_by reading c kind input entry in (
        refl,
        are_of_append (OfReader r) (take n offers) (own_of_reader reading c r kind (input_after_entry kind entry input) entries (drop n offers)) (are_of_take (OfReader r) n offers of)
            (own_of_part (input_after_entry kind entry input) entries (drop n offers) (are_of_drop (OfReader r) n offers of)),
      )

  pub own_is_there : (readers dests : ℕ) → r < readers → (input : List Stream) (entries : List InputEntry) (offers : List Placed) → AreThere readers dests offers
      → AreThere readers dests (own_of_reader reading c r kind input entries offers)
  own_is_there readers dests l input [] offers there = there
  own_is_there readers dests l input (entry ∷ entries) offers there =
      let n = given_by reading c kind input entry in (
        l,
        there_append readers dests (take n offers) (own_of_reader reading c r kind (input_after_entry kind entry input) entries (drop n offers)) (there_take readers dests n offers there)
            (own_is_there readers dests l (input_after_entry kind entry input) entries (drop n offers) (there_drop readers dests n offers there)),
      )

-- ---- a writer's own

pub log_of_part : (d : ℕ) (log : List LogEntry) → AreOf (OfWriter d) (own_of_writer d log)
log_of_part d [] = tt
log_of_part d (UpEntry ∷ log) = (refl, log_of_part d log)
log_of_part d (TakeEntry limit taken ∷ log) = (refl, log_of_part d log)
log_of_part d (WroteEntry count ∷ log) = (refl, log_of_part d log)
log_of_part d (DownEntry ∷ log) = (refl, log_of_part d log)

pub log_is_there : (readers dests d : ℕ) (log : List LogEntry) → d < dests → AreThere readers dests (own_of_writer d log)
log_is_there readers dests d [] l = tt
log_is_there readers dests d (UpEntry ∷ log) l = (l, log_is_there readers dests d log l)
log_is_there readers dests d (TakeEntry limit taken ∷ log) l = (l, log_is_there readers dests d log l)
log_is_there readers dests d (WroteEntry count ∷ log) l = (l, log_is_there readers dests d log l)
log_is_there readers dests d (DownEntry ∷ log) l = (l, log_is_there readers dests d log l)

-- ---- all that is placed exists

-- the reader of an offer exists
abbrev pub HasReader : ℕ → RecordedStep → Type 0
HasReader readers (Offered reader number point kept) = reader < readers
HasReader readers (Took limit taken) = Unit {0}

abbrev HaveReaders : ℕ → List RecordedStep → Type 0
HaveReaders readers [] = Unit {0}
HaveReaders readers (step ∷ steps) = HasReader readers step × HaveReaders readers steps

replayed_readers : (size readers : ℕ) (q end : Queue) (steps : List RecordedStep) → length q.next ≡ readers → Replays size q steps end → HaveReaders readers steps
replayed_readers size readers q end [] count goes = tt
replayed_readers size readers q end (Offered reader number point kept ∷ steps) count goes =
    (subst (λ n. reader < n) count goes.0.0.0, replayed_readers size readers (queue_after_recorded size q (Offered reader number point kept)) end steps (rw length-set count) goes.1)
replayed_readers size readers q end (Took limit taken ∷ steps) count goes =
    (tt, replayed_readers size readers (queue_after_recorded size q (Took limit taken)) end steps count goes.1)

has_reader : (readers dest n : ℕ) (steps : List RecordedStep) → HaveReaders readers steps → (x : NumberedStep) → IsIn x (numbered_from dest n steps) → HasReader readers x.step
has_reader readers dest n [] have x within = absurd within
has_reader readers dest n (step ∷ steps) have x (inl same) = subst (λ k. HasReader readers k.step) (sym same) have.0
has_reader readers dest n (step ∷ steps) have x (inr within) = has_reader readers dest (n + 1) steps have.1 x within

-- the step of a history from the empty queue
pub reader_there : (size readers dest n : ℕ) (q end : Queue) (steps : List RecordedStep) → length q.next ≡ readers → Replays size q steps end
    → (x : NumberedStep) → IsIn x (numbered_from dest n steps) → HasReader readers x.step
reader_there size readers dest n q end steps count goes x within = has_reader readers dest n steps (replayed_readers size readers q end steps count goes) x within

step_is_there : (readers dests d : ℕ) (step : RecordedStep) → d < dests → HasReader readers step → IsThere readers dests (Stepping d (step_of_recorded step))
step_is_there readers dests d (Offered reader number point kept) l has = (has, l)
step_is_there readers dests d (Took limit taken) l has = l

pub steps_are_there : (readers dests : ℕ) (xs : List NumberedStep) → ((x : NumberedStep) → IsIn x xs → (x.dest < dests) × HasReader readers x.step)
    → AreThere readers dests (map placed_of xs)
steps_are_there readers dests [] all = tt
steps_are_there readers dests (x ∷ xs) all =
    let here = all x (inl refl) in
    (step_is_there readers dests x.dest x.step here.0 here.1, steps_are_there readers dests xs (λ y within. all y (inr within)))

there_before : (readers dests : ℕ) (xs : List Placed) → AreThere readers dests xs → AreThere readers dests (before_step xs)
there_before readers dests [] there = tt
there_before readers dests (x ∷ xs) there = elim (either (is_of_queue x)) [
  | inl h ↦ rw h tt
  | inr h ↦ rw h (there.0, there_before readers dests xs there.1)
]

there_behind : (readers dests : ℕ) (xs : List Placed) → AreThere readers dests xs → AreThere readers dests (behind_step xs)
there_behind readers dests [] there = tt
there_behind readers dests (x ∷ xs) there = elim (either (is_of_queue x)) [
  | inl h ↦ rw h there.1
  | inr h ↦ rw h (there_behind readers dests xs there.1)
]

there_rest : (readers dests : ℕ) (parts : List Part) (own : Part → List Placed) → ((q : Part) → AreThere readers dests (own q)) → AreThere readers dests (flat_map own parts)
there_rest readers dests [] own there = tt
there_rest readers dests (p ∷ parts) own there = there_append readers dests (own p) (flat_map own parts) (there p) (there_rest readers dests parts own there)

pub placed_is_there : (readers dests : ℕ) (parts : List Part) (own : Part → List Placed) (steps : List Placed)
    → ((q : Part) → AreThere readers dests (own q)) → AreThere readers dests steps → AreThere readers dests (placed_by parts own steps)
placed_is_there readers dests parts own [] there all = there_rest readers dests parts own there
placed_is_there readers dests parts own (step ∷ steps) there all =
    let p = part_of step in
    there_append readers dests (before_step (own p)) (step ∷ placed_by parts (left_behind p own) steps) (there_before readers dests (own p) (there p)) (
      all.0,
      placed_is_there readers dests parts (left_behind p own) steps
          (λ q. elim (either (is_same p q)) [
            | inl h ↦ rw h (there_behind readers dests (own q) (there q))
            | inr h ↦ rw h (there q)
          ])
          all.1,
    )
