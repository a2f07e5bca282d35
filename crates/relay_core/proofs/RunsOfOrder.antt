-- The run of a common order is one of the world's runs, with all that was logged.
use Rattle.std.proofs.Common.{filter, ◌≡◌, ◌<◌, ◌≤◌, ◌+◌, ◌*◌, ℕ, zero, suc, Bool, true, ◌==◌, List, [], ◌∷◌, length, refl, sym, ap, ◌∙◌, subst, inl, inr, filter_map, map, Some, None, Option, arith, eq-eqb, eqb-true}
use Rattle.std.proofs.lemmas.Bool.{cases_lt}
use Rattle.std.proofs.lemmas.List.{get_or_past, get_or-replicate, length-replicate}
use Rattle.std.specs.Prelude.{◌⊎◌, ◌&&◌, slice_index_or}
use Rattle.std.proofs.lemmas.Grind.{common_steps}
use Rattle.dest_queue.specs.Queue.{empty_queue, most_steps}
use Rattle.dest_queue.specs.RecordedStep.{RecordedStep}
use Rattle.reader_core.specs.Input.{fresh_input}
use Rattle.reader_core.specs.Reading.{Reading, IsOrderly}
use Rattle.reader_core.specs.Configuration.{Configuration}
use Rattle.reader_core.specs.Entries.{input_after_entries}
use Rattle.reader_core.specs.declared.kind.ReaderKind.{ReaderKind}
use Rattle.reader_core.specs.declared.kind.ReaderKind.TheVariants.{Line}
use Rattle.common_orders.specs.CommonOrder.{times, IsWithin}
use Rattle.relay_core.specs.Destination.{Destination, fresh_destination}
use Rattle.relay_core.specs.World.{ReaderState, fresh_world, fresh_reader}
use Rattle.dest_writer.specs.Log.{takes_in_log}
use Rattle.relay_core.specs.Weave.{IsWeave, after_woven, queue_steps, takes_in_history}
use Rattle.dest_queue.specs.Numbered.{NumberedStep, all_numbered, numbers_of, history_numbers, step_numbered, steps_in_order, is_offer_of, offers_of_reader}
use Rattle.relay_core.specs.Logged.{Logged, kind_of, entries_of, history_of, log_of, all_recorded, record_of, HaveLimit, AgreesInOrder}
use Rattle.relay_core.specs.RunOfOrder.{placed_of, own_of, placed_in_order, run_of_order, Placed, Part, OfReader, OfWriter, parts_of}
use Rattle.relay_core.specs.OneRun.{is_queue_act, HasAllLogged}
use Rattle.relay_core.proofs.Localities.{woven_at, Reads, Goes, AreThere, IsBefore, all_go}
use Rattle.relay_core.proofs.Placing.{HaveSteps, HaveOwn, steps_placed, reader_placed, writer_placed}
use Rattle.relay_core.proofs.Entering.{reads_log}
use Rattle.relay_core.proofs.WovenOwn.{goes_woven, writer_steps_placed, same_queue_steps}
use Rattle.relay_core.proofs.Members.{IsIn, in_filter, filter_in, find_in, in_times, within_filter, within_at, within_record, picked_are}
use Rattle.relay_core.proofs.Histories.{AreShort, found_by_number, is_at_place, history_in_order}
use Rattle.relay_core.proofs.Placed.{all_steps, are_offers, reader_steps, taken_at, takes_of_log, recorded_at, writer_steps_in, queue_steps_at, steps_of_ordered, offers_of_part, steps_of_reader, own_of_part, own_is_there, log_of_part, log_is_there, HasReader, reader_there, steps_are_there, placed_is_there}
use Rattle.relay_core.proofs.EntriesPlaced.{fed_its_log, acts_in_order}
use Rattle.relay_core.proofs.Weaving.{one_weave, weave_replays}

short_all : (histories : List (List RecordedStep)) → ((d : ℕ) → d < length histories → length (slice_index_or histories d []) ≤ most_steps) → AreShort histories
short_all [] few = tt
short_all (history ∷ histories) few = (few zero (omega arith), short_all histories (λ d l. few (suc d) (omega (arith, l))))

and_true : (a b : Bool) → a ≡ true → b ≡ true → (a && b) ≡ true
and_true a b x y = rw (x, y) refl

first_reader : (kinds : List ReaderKind) (r : ℕ) → r < length kinds
    → slice_index_or (map fresh_reader kinds) r (record { kind = Line; input = []; made = 0 }) ≡ fresh_reader (slice_index_or kinds r Line)
first_reader [] r l = absurd (omega (arith, l))
first_reader (kind ∷ kinds) zero l = refl
first_reader (kind ∷ kinds) (suc r) l = first_reader kinds r (omega (arith, l))

module _ (reading : Reading) (orderly : IsOrderly reading) (c : Configuration) where
  module _ (l : Logged) (order : List ℕ) (a : AgreesInOrder reading c l order) where
    short : AreShort l.histories
    short = short_all l.histories (λ d there. (a.destinations d (subst (λ n. d < n) a.histories there)).unsealed)

    -- ---- the steps in the order

    abbrev in_order : List NumberedStep
    in_order = steps_in_order l.histories order

    recorded_in_history : (r : ℕ) (x : NumberedStep) → IsIn x (record_of l r) → IsIn x (all_numbered 0 l.histories) × (is_offer_of r x.step ≡ true)
    recorded_in_history r x within =
        let test = λ (y : NumberedStep). is_offer_of r y.step && y.dest == x.dest in
        let mine = filter_in (λ y. is_offer_of r y.step) x (all_recorded l) within in
        let there = in_filter test x (all_recorded l) mine.0 (and_true _ _ mine.1 (eq-eqb x.dest x.dest refl)) in
        let also = filter_in test x (all_numbered 0 l.histories) (subst (λ xs. IsIn x xs) (a.same r x.dest) there) in
        (also.0, mine.1)

    pub offers_in_order : (r : ℕ) → offers_of_reader r in_order ≡ record_of l r
    offers_in_order r =
        let one = a.one_record r in
        picked_are (step_numbered l.histories) (λ x. is_offer_of r x.step) (record_of l r) order
        (subst (λ xs. IsWithin (numbers_of xs) order) one.1
        (within_filter (λ x. is_offer_of r x.step) (slice_index_or l.records one.0 []) order
        (within_record l.records one.0 order (within_at (history_numbers 0 l.histories) (map numbers_of l.records) order a.common.within))))
        (λ x within. let own = recorded_in_history r x within in (found_by_number l.histories short x own.0, own.1))
        (λ n x there found holds.
        let test = λ (y : NumberedStep). is_offer_of r y.step && y.dest == x.dest in
        let own = find_in (λ y. y.number == n) x (all_numbered 0 l.histories) found in
        let mine = in_filter test x (all_numbered 0 l.histories) own.0 (and_true _ _ holds (eq-eqb x.dest x.dest refl)) in
        let also = filter_in test x (all_recorded l) (subst (λ xs. IsIn x xs) (sym (a.same r x.dest)) mine) in
        let number : x.number ≡ n = eqb-true x.number n own.1 in
        subst (λ k. 0 < times k (numbers_of (record_of l r))) number (in_times x (record_of l r) (in_filter (λ y. is_offer_of r y.step) x (all_recorded l) also.0 holds)))
        a.common.once

    pub history_at : (d : ℕ) → recorded_at d in_order ≡ history_of l d
    history_at d =
        ap (map (λ x. x.step)) (history_in_order l.histories short order d (map numbers_of l.records) a.common.within a.common.once)
        ∙ steps_of_ordered d (most_steps * d) (history_of l d)

    -- ---- what each part has

    same_takes : (d : ℕ) → takes_in_history (history_of l d) ≡ takes_in_log (log_of l d)
    same_takes d = by_case (cases_lt d c.destinations)
      where
        by_case : (d < c.destinations) ⊎ (c.destinations ≤ d) → takes_in_history (history_of l d) ≡ takes_in_log (log_of l d)
        by_case (inl there) = (a.destinations d there).takes
        by_case (inr past) =
            rw (
              get_or_past l.histories d [] (subst (λ n. n ≤ d) (sym a.histories) past),
              get_or_past l.logs d [] (subst (λ n. n ≤ d) (sym a.logs) past),
            )
            refl

    pub have_steps : HaveSteps (own_of reading c l) (map placed_of in_order)
    have_steps (OfReader r) =
        steps_of_reader reading c r (kind_of l r) (fresh_input (kind_of l r)) (entries_of l r) (map placed_of (record_of l r)) (all_steps (record_of l r))
        ∙ (ap (map placed_of) (sym (offers_in_order r)) ∙ sym (reader_steps r in_order))
    have_steps (OfWriter d) =
        takes_of_log d (log_of l d)
        ∙ (ap (map (taken_at d)) (sym (same_takes d) ∙ ap takes_in_history (sym (history_at d))) ∙ sym (writer_steps_in d in_order))

    pub have_own : HaveOwn (own_of reading c l)
    have_own (OfReader r) =
        own_of_part reading c r (kind_of l r) (fresh_input (kind_of l r)) (entries_of l r) (map placed_of (record_of l r))
        (offers_of_part r (record_of l r) (are_offers r (all_recorded l)))
    have_own (OfWriter d) = log_of_part d (log_of l d)

    -- ---- all exists

    step_there : (x : NumberedStep) → IsIn x (all_numbered 0 l.histories) → (x.dest < c.destinations) × HasReader (length l.kinds) x.step
    step_there x within =
        let here = is_at_place 0 l.histories x within in
        let place : 0 + here.place ≡ here.place = omega arith in
        let there : here.place < c.destinations = subst (λ n. here.place < n) a.histories here.there in
        let log = a.destinations here.place there in (
          subst (λ n. n < c.destinations) (sym (here.dest ∙ place)) there,
          reader_there c.size (length l.kinds) (0 + here.place) (most_steps * (0 + here.place)) (empty_queue (length l.kinds)) log.end (history_of l here.place)
              (length-replicate (length l.kinds) 0) log.replays x here.within,
        )

    picked_there : (numbers : List ℕ) (x : NumberedStep) → IsIn x (filter_map (step_numbered l.histories) numbers) → IsIn x (all_numbered 0 l.histories)
    picked_there [] x within = absurd within
    picked_there (n ∷ numbers) x within = by_case (step_numbered l.histories n) refl (picked_there numbers x)
      where
        by_case : (o : Option NumberedStep) → step_numbered l.histories n ≡ o
            → (IsIn x (filter_map (step_numbered l.histories) numbers) → IsIn x (all_numbered 0 l.histories)) → IsIn x (all_numbered 0 l.histories)
        by_case None e rest = rest (rw e at within)
        by_case (Some y) e rest =
            let parts : (x ≡ y) ⊎ IsIn x (filter_map (step_numbered l.histories) numbers) = rw e at within in
            elim parts [
              | inl same ↦ (find_in (λ k. k.number == n) x (all_numbered 0 l.histories) (e ∙ ap (λ k. Some k) (sym same))).0
              | inr more ↦ rest more
            ]

    own_there : (q : Part) → AreThere (length l.kinds) c.destinations (own_of reading c l q)
    own_there (OfReader r) =
        let offers : AreThere (length l.kinds) c.destinations (map placed_of (record_of l r)) =
        steps_are_there (length l.kinds) c.destinations (record_of l r) (λ x within. step_there x (recorded_in_history r x within).0) in
        by_case (cases_lt r (length l.kinds)) offers
      where
        by_case : (r < length l.kinds) ⊎ (length l.kinds ≤ r) → AreThere (length l.kinds) c.destinations (map placed_of (record_of l r))
            → AreThere (length l.kinds) c.destinations (own_of reading c l (OfReader r))
        by_case (inl there) offers =
            own_is_there reading c r (kind_of l r) (length l.kinds) c.destinations there (fresh_input (kind_of l r)) (entries_of l r) (map placed_of (record_of l r)) offers
        by_case (inr past) offers = rw (get_or_past l.inputs r [] (subst (λ n. n ≤ r) (sym a.inputs) past)) offers
    own_there (OfWriter d) = by_case (cases_lt d c.destinations)
      where
        by_case : (d < c.destinations) ⊎ (c.destinations ≤ d) → AreThere (length l.kinds) c.destinations (own_of reading c l (OfWriter d))
        by_case (inl there) = log_is_there (length l.kinds) c.destinations d (log_of l d) there
        by_case (inr past) = rw (get_or_past l.logs d [] (subst (λ n. n ≤ d) (sym a.logs) past)) tt

    -- ---- the run

    abbrev placed : List Placed
    placed = placed_in_order reading c l order

    all_there : AreThere (length l.kinds) c.destinations placed
    all_there =
        placed_is_there (length l.kinds) c.destinations (parts_of (length l.kinds) c.destinations) (own_of reading c l) (map placed_of in_order) own_there
        (steps_are_there (length l.kinds) c.destinations in_order (λ x within. step_there x (picked_there order x within)))

    abbrev reader_end : ℕ → ReaderState
    reader_end r =
        record {
          kind = kind_of l r;
          input = input_after_entries (kind_of l r) (entries_of l r) (fresh_input (kind_of l r));
          made = length (record_of l r);
        }

    abbrev dest_end : ℕ → Destination
    dest_end d = after_woven c.size (fresh_destination (length l.kinds)) (woven_at d placed)

    woven : (d : ℕ) → d < c.destinations → IsWeave (history_of l d) (log_of l d) (woven_at d placed)
    woven d there =
        record {
          of_queue =
              same_queue_steps d placed
              ∙ (ap (λ xs. queue_steps (woven_at d xs)) (steps_placed (parts_of (length l.kinds) c.destinations) (own_of reading c l) (map placed_of in_order) (all_steps in_order) have_steps)
              ∙ (queue_steps_at d in_order ∙ history_at d));
          of_writer =
              writer_steps_placed d (log_of l d) placed
              (writer_placed (length l.kinds) c.destinations (own_of reading c l) (map placed_of in_order) have_own have_steps d there);
        }

    reader_reads : (r : ℕ) → r < length l.kinds → Reads reading c (fresh_reader (kind_of l r)) (own_of reading c l (OfReader r)) (reader_end r)
    reader_reads r there =
        reads_log reading c orderly r (kind_of l r) (entries_of l r) (record_of l r) (are_offers r (all_recorded l)) (a.readers r there)

    dest_goes : (d : ℕ) → d < c.destinations → Goes reading c (fresh_destination (length l.kinds)) (woven_at d placed) (dest_end d)
    dest_goes d there =
        let log = a.destinations d there in
        let weave = woven d there in
        goes_woven reading c (fresh_destination (length l.kinds)) (woven_at d placed)
        (subst (λ steps. HaveLimit c.limit steps) (sym weave.of_queue) log.limits)
        (rw (weave.of_queue, weave.of_writer) log.written)

    begins : IsBefore reading c (length l.kinds) c.destinations reader_end dest_end (fresh_world c l.kinds) placed
    begins =
        record {
          reader_count = grind (arith, common_steps);
          dest_count = length-replicate c.destinations (fresh_destination (length l.kinds));
          reads = λ r there.
              rw (
                first_reader l.kinds r there,
                reader_placed (length l.kinds) c.destinations (own_of reading c l) (map placed_of in_order) have_own have_steps r there,
              )
              (reader_reads r there);
          goes = λ d there.
              rw (get_or-replicate c.destinations d (fresh_destination (length l.kinds)) (fresh_destination 0) there)
              (dest_goes d there);
        }

    pub has_all : HasAllLogged reading l order (run_of_order reading c l order)
    has_all =
        let gone = all_go reading c (length l.kinds) c.destinations reader_end dest_end (fresh_world c l.kinds) placed all_there begins in
        record {
          allowed = gone.allowed;
          in_order =
              ap (filter (λ step. is_queue_act step.act)) gone.done
              ∙ acts_in_order placed in_order
              (steps_placed (parts_of (length l.kinds) c.destinations) (own_of reading c l) (map placed_of in_order) (all_steps in_order) have_steps);
          inputs = λ r there.
              fed_its_log reading c r (kind_of l r) (fresh_input (kind_of l r)) (entries_of l r) (map placed_of (record_of l r)) placed (all_steps (record_of l r))
              (reader_placed (length l.kinds) c.destinations (own_of reading c l) (map placed_of in_order) have_own have_steps r there);
          readers = gone.reader_ends;
          steps = λ d there. (woven_at d placed, woven d there, gone.acts d);
          destinations = λ d there steps is.
              gone.dest_ends d there
              ∙ one_weave c.size (fresh_destination (length l.kinds)) (history_of l d) (log_of l d) (woven_at d placed) steps (woven d there) is;
          queues = λ d there end goes.
              ap (λ t. t.queue) (gone.dest_ends d there)
              ∙ weave_replays c.size (fresh_destination (length l.kinds)) end (history_of l d) (log_of l d) (woven_at d placed) (woven d there) goes;
        }
