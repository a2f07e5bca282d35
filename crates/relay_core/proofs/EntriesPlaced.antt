-- What a reader is fed by placed events is its log, and their offers and takes are the order's.
use Rattle.std.proofs.Common.{◌≡◌, ℕ, ◌==◌, List, [], ◌∷◌, ◌++◌, refl, sym, ap, ◌∙◌, inl, inr, filter, filter_map, map, take, drop, eq-eqb}
use Rattle.std.proofs.lemmas.Bool.{ne_eqb, false≢true}
use Rattle.std.proofs.lemmas.Bool.Decides.{eqb_tells}
use Rattle.std.proofs.lemmas.List.{append-nil}
use Rattle.reader_core.specs.Input.{Stream}
use Rattle.reader_core.specs.Reading.{Reading}
use Rattle.reader_core.specs.Configuration.{Configuration}
use Rattle.reader_core.specs.Entries.{InputEntry, Piece, End, input_after_entry}
use Rattle.reader_core.specs.declared.kind.ReaderKind.{ReaderKind}
use Rattle.relay_core.specs.Weave.{Offering, Taking, Connecting, Writing, Losing}
use Rattle.relay_core.specs.RunOfOrder.{placed_of, Placed, Entering, Stepping, OfReader, event_of_placed, given_by, own_of_reader}
use Rattle.relay_core.specs.OneRun.{entries_in, is_queue_act, queue_act_of}
use Rattle.dest_queue.specs.Numbered.{NumberedStep}
use Rattle.relay_core.specs.Destination.{Offered, Taken}
use Rattle.relay_core.proofs.Localities.{either, own_at, act_placed}
use Rattle.relay_core.proofs.Placing.{AreSteps, queue_steps_in}
use Rattle.relay_core.proofs.Placed.{steps_take, steps_drop}

abbrev entries_placed : ℕ → List Placed → List InputEntry
entries_placed r xs = entries_in r (map event_of_placed xs)

-- it is among the reader's own
own_entries : (r : ℕ) (xs : List Placed) → entries_placed r xs ≡ entries_placed r (own_at (OfReader r) xs)
own_entries r [] = refl
own_entries r (Entering q (Piece bytes moment) ∷ xs) = elim (eqb_tells q r) [
  | inl own ↦ rw (own.0, eq-eqb r q (sym own.1), own.0) (ap (λ es. Piece bytes moment ∷ es) (own_entries r xs))
  | inr other ↦ rw (other.0, ne_eqb r q (λ e. other.1 (sym e))) (own_entries r xs)
]
own_entries r (Entering q End ∷ xs) = elim (eqb_tells q r) [
  | inl own ↦ rw (own.0, eq-eqb r q (sym own.1), own.0) (ap (λ es. End ∷ es) (own_entries r xs))
  | inr other ↦ rw (other.0, ne_eqb r q (λ e. other.1 (sym e))) (own_entries r xs)
]
own_entries r (Stepping d (Offering q number point kept) ∷ xs) = elim (either (r == q)) [
  | inl h ↦ rw h (own_entries r xs)
  | inr h ↦ rw h (own_entries r xs)
]
own_entries r (Stepping d (Taking limit taken) ∷ xs) = own_entries r xs
own_entries r (Stepping d Connecting ∷ xs) = own_entries r xs
own_entries r (Stepping d (Writing count) ∷ xs) = own_entries r xs
own_entries r (Stepping d Losing ∷ xs) = own_entries r xs

-- steps of queues feed nothing
steps_feed_nothing : (r : ℕ) (steps rest : List Placed) → AreSteps steps → entries_placed r (steps ++ rest) ≡ entries_placed r rest
steps_feed_nothing r [] rest are = refl
steps_feed_nothing r (Entering q entry ∷ steps) rest are = absurd (false≢true are.0)
steps_feed_nothing r (Stepping d (Offering q number point kept) ∷ steps) rest are = steps_feed_nothing r steps rest are.1
steps_feed_nothing r (Stepping d (Taking limit taken) ∷ steps) rest are = steps_feed_nothing r steps rest are.1
steps_feed_nothing r (Stepping d Connecting ∷ steps) rest are = steps_feed_nothing r steps rest are.1
steps_feed_nothing r (Stepping d (Writing count) ∷ steps) rest are = steps_feed_nothing r steps rest are.1
steps_feed_nothing r (Stepping d Losing ∷ steps) rest are = steps_feed_nothing r steps rest are.1

module _ (reading : Reading) (c : Configuration) (r : ℕ) (kind : ReaderKind) where
  entries_of_own : (input : List Stream) (entries : List InputEntry) (offers : List Placed) → AreSteps offers
      → entries_placed r (own_of_reader reading c r kind input entries offers) ≡ entries
  entries_of_own input [] offers are = ap (entries_placed r) (sym (append-nil offers)) ∙ steps_feed_nothing r offers [] are
  entries_of_own input (Piece bytes moment ∷ entries) offers are =
      let n = given_by reading c kind input (Piece bytes moment) in
      rw (eq-eqb r r refl)
      (ap (λ es. Piece bytes moment ∷ es)
      (steps_feed_nothing r (take n offers) (own_of_reader reading c r kind (input_after_entry kind (Piece bytes moment) input) entries (drop n offers)) (steps_take n offers are)
      ∙ entries_of_own (input_after_entry kind (Piece bytes moment) input) entries (drop n offers) (steps_drop n offers are)))
  entries_of_own input (End ∷ entries) offers are =
      let n = given_by reading c kind input End in
      rw (eq-eqb r r refl)
      (ap (λ es. End ∷ es)
      (steps_feed_nothing r (take n offers) (own_of_reader reading c r kind (input_after_entry kind End input) entries (drop n offers)) (steps_take n offers are)
      ∙ entries_of_own (input_after_entry kind End input) entries (drop n offers) (steps_drop n offers are)))

  pub fed_its_log : (input : List Stream) (entries : List InputEntry) (offers xs : List Placed) → AreSteps offers
      → own_at (OfReader r) xs ≡ own_of_reader reading c r kind input entries offers → entries_in r (map event_of_placed xs) ≡ entries
  fed_its_log input entries offers xs are own = own_entries r xs ∙ (ap (entries_placed r) own ∙ entries_of_own input entries offers are)

-- ---- the offers and takes among placed events

queue_acts : (xs : List Placed) → filter (λ step. is_queue_act step.act) (filter_map act_placed xs) ≡ filter_map act_placed (queue_steps_in xs)
queue_acts [] = refl
queue_acts (Entering q entry ∷ xs) = queue_acts xs
queue_acts (Stepping d (Offering q number point kept) ∷ xs) = ap (λ acts. record { dest = d; act = Offered q point } ∷ acts) (queue_acts xs)
queue_acts (Stepping d (Taking limit taken) ∷ xs) = ap (λ acts. record { dest = d; act = Taken } ∷ acts) (queue_acts xs)
queue_acts (Stepping d Connecting ∷ xs) = queue_acts xs
queue_acts (Stepping d (Writing count) ∷ xs) = queue_acts xs
queue_acts (Stepping d Losing ∷ xs) = queue_acts xs

acts_of_steps : (xs : List NumberedStep) → filter_map act_placed (map placed_of xs) ≡ map queue_act_of xs
acts_of_steps [] = refl
acts_of_steps (x ∷ xs) = ap (λ acts. queue_act_of x ∷ acts) (acts_of_steps xs)

-- they are the order's
pub acts_in_order : (xs : List Placed) (steps : List NumberedStep) → queue_steps_in xs ≡ map placed_of steps
    → filter (λ step. is_queue_act step.act) (filter_map act_placed xs) ≡ map queue_act_of steps
acts_in_order xs steps same = queue_acts xs ∙ (ap (filter_map act_placed) same ∙ acts_of_steps steps)
