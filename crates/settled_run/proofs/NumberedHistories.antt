-- The histories' steps with their numbers, and what replays say of them.
use Rattle.std.proofs.Common.{◌≡◌, ◌≢◌, ◌<◌, ◌≤◌, ◌+◌, ◌*◌, ◌-◌, ℕ, zero, suc, Bool, true, false, ◌==◌, List, [], ◌∷◌, ◌++◌, length, refl, sym, ap, ◌∙◌, subst, arith, eq-eqb}
use Rattle.std.specs.Prelude.{◌&&◌, ◌/◌, slice_get, slice_index_or, Some}
use Rattle.std.proofs.lemmas.Bool.{ne_eqb}
use Rattle.std.proofs.lemmas.Bool.Decides.{nat_tests}
use Rattle.std.proofs.lemmas.List.{append-nil, length-set, length-replicate}
use Rattle.std.proofs.lemmas.List.Elements.{filter-append}
use Rattle.dest_queue.specs.Counts.{counts_of}
use Rattle.dest_queue.specs.History.{Replays}
use Rattle.dest_queue.specs.Queue.{Queue, empty_queue, most_steps, queue_after_offer, queue_after_take, batch}
use Rattle.dest_queue.specs.RecordedStep.{RecordedStep, Offered, Took}
use Rattle.dest_queue.specs.declared.counts.Counts.{Counts}
use Rattle.dest_queue.specs.Numbered.{NumberedStep, numbered_from, all_numbered, is_offer_of, offers_at}
use Rattle.relay_core.specs.Weave.{takes_in_history}
use Rattle.queue_records.specs.Settling.{Begins, AreBegun, AreUnsealed}
use Rattle.settled_run.proofs.RecordedTakes.{takes_at, takes_at-append}

-- ---- replays

recorded_after : (size : ℕ) (q end : Queue) (steps : List RecordedStep) → Replays size q steps end → end.recorded ≡ q.recorded + length steps
recorded_after size q end [] replays = let e : q.recorded ≡ end.recorded = ap (λ k. k.recorded) replays in omega (arith, e)
recorded_after size q end (Offered reader number point kept ∷ steps) replays =
    omega (arith, recorded_after size (queue_after_offer size reader point q) end steps replays.1)
recorded_after size q end (Took limit taken ∷ steps) replays =
    let some : 0 < length (batch limit q) = omega (arith, replays.0.0, replays.0.1) in
    let one : (queue_after_take limit q).recorded ≡ q.recorded + 1 = grind (arith, nat_tests) in
    omega (arith, one, recorded_after size (queue_after_take limit q) end steps replays.1)

-- a history that begins, and was not sealed
pub record Begun (size readers : ℕ) (c : Counts) (history : List RecordedStep) : Type 0 where
  pub end : Queue
  pub replays : Replays size (empty_queue readers) history end
  pub counted : c ≡ counts_of end
  pub short : length history ≤ most_steps

begun : (size readers : ℕ) (c : Counts) (history : List RecordedStep) → Begins size readers c history → c.seals ≡ 0 → Begun size readers c history
begun size readers c history begins unsealed =
    let there = begins unsealed in
    let seals : (there.0.recorded - 1) / most_steps ≡ 0 = ap (λ k. k.seals) (sym there.2) ∙ unsealed in
    record {
      end = there.0;
      replays = there.1;
      counted = there.2;
      short = omega (arith, seals, recorded_after size (empty_queue readers) there.0 history there.1);
    }

-- the counts of a destination, with its history
pub record BegunAt (size readers : ℕ) (counts : List Counts) (histories : List (List RecordedStep)) (d : ℕ) : Type 0 where
  pub own : Counts
  pub at : slice_get counts d ≡ Some own
  pub begun : Begun size readers own (slice_index_or histories d [])

pub begun_lengths : (size readers : ℕ) (counts : List Counts) (histories : List (List RecordedStep)) → AreBegun size readers counts histories → length counts ≡ length histories
begun_lengths size readers [] [] all = refl
begun_lengths size readers [] (h ∷ hs) all = absurd all
begun_lengths size readers (c ∷ cs) [] all = absurd all
begun_lengths size readers (c ∷ cs) (h ∷ hs) all = ap (λ n. suc n) (begun_lengths size readers cs hs all.1)

pub begun_at : (size readers : ℕ) (counts : List Counts) (histories : List (List RecordedStep)) → AreBegun size readers counts histories → AreUnsealed counts
    → (d : ℕ) → d < length histories → BegunAt size readers counts histories d
begun_at size readers [] [] all unsealed d there = absurd (omega (arith, there))
begun_at size readers [] (h ∷ hs) all unsealed d there = absurd all
begun_at size readers (c ∷ cs) [] all unsealed d there = absurd all
begun_at size readers (c ∷ cs) (h ∷ hs) all unsealed zero there =
    record { own = c; at = refl; begun = begun size readers c h all.0 (unsealed zero c refl) }
begun_at size readers (c ∷ cs) (h ∷ hs) all unsealed (suc d) there =
    let rest = begun_at size readers cs hs all.1 (λ i own at. unsealed (suc i) own at) d (omega (arith, there)) in
    record { own = rest.own; at = rest.at; begun = rest.begun }

-- ---- offers that no history has

false_and : (a b : Bool) → a ≡ false → (a && b) ≡ false
false_and a b e = rw e refl

and_false : (a b : Bool) → b ≡ false → (a && b) ≡ false
and_false true b e = e
and_false false b e = refl

none_elsewhere : (r d dest n : ℕ) (steps : List RecordedStep) → dest ≢ d → offers_at r d (numbered_from dest n steps) ≡ []
none_elsewhere r d dest n [] apart = refl
none_elsewhere r d dest n (s ∷ steps) apart = rw (and_false (is_offer_of r s) (dest == d) (ne_eqb dest d apart)) (none_elsewhere r d dest (n + 1) steps apart)

none_of_reader : (size r d dest n readers : ℕ) (q end : Queue) (steps : List RecordedStep) → length q.next ≡ readers → readers ≤ r → Replays size q steps end
    → offers_at r d (numbered_from dest n steps) ≡ []
none_of_reader size r d dest n readers q end [] count past replays = refl
none_of_reader size r d dest n readers q end (Offered reader number point kept ∷ steps) count past replays =
    let other : reader ≢ r = λ e. absurd (omega (arith, e, replays.0.0.0, count, past)) in
    rw (false_and (reader == r) (dest == d) (ne_eqb reader r other))
    (none_of_reader size r d dest (n + 1) readers (queue_after_offer size reader point q) end steps (length-set q.next reader _ ∙ count) past replays.1)
none_of_reader size r d dest n readers q end (Took limit taken ∷ steps) count past replays =
    none_of_reader size r d dest (n + 1) readers (queue_after_take limit q) end steps count past replays.1

pub no_offers_past : (r d a : ℕ) (histories : List (List RecordedStep)) → a + length histories ≤ d → offers_at r d (all_numbered a histories) ≡ []
no_offers_past r d a [] past = refl
no_offers_past r d a (h ∷ histories) past =
    let test = λ (x : NumberedStep). is_offer_of r x.step && x.dest == d in
    filter-append test (numbered_from a (most_steps * a) h) (all_numbered (a + 1) histories)
    ∙ (ap (λ b. b ++ offers_at r d (all_numbered (a + 1) histories)) (none_elsewhere r d a (most_steps * a) h (λ e. absurd (omega (arith, e, past))))
    ∙ no_offers_past r d (a + 1) histories (omega (arith, past)))

pub no_offers_of_strangers : (size readers r d a : ℕ) (histories : List (List RecordedStep)) → readers ≤ r
    → ((place : ℕ) → place < length histories → (end : Queue) × Replays size (empty_queue readers) (slice_index_or histories place []) end)
    → offers_at r d (all_numbered a histories) ≡ []
no_offers_of_strangers size readers r d a [] past each = refl
no_offers_of_strangers size readers r d a (h ∷ histories) past each =
    let test = λ (x : NumberedStep). is_offer_of r x.step && x.dest == d in
    let own = each zero (omega arith) in
    filter-append test (numbered_from a (most_steps * a) h) (all_numbered (a + 1) histories)
    ∙ (ap (λ b. b ++ offers_at r d (all_numbered (a + 1) histories))
    (none_of_reader size r d a (most_steps * a) readers (empty_queue readers) own.0 h (length-replicate readers 0) past own.1)
    ∙ no_offers_of_strangers size readers r d (a + 1) histories past (λ place there. each (suc place) (omega (arith, there))))

-- ---- the takes of a history

takes_from : (d n : ℕ) (steps : List RecordedStep) → takes_at d (numbered_from d n steps) ≡ takes_in_history steps
takes_from d n [] = refl
takes_from d n (Offered reader number point kept ∷ steps) = rw (eq-eqb d d refl) (takes_from d (n + 1) steps)
takes_from d n (Took limit taken ∷ steps) = rw (eq-eqb d d refl) (ap (λ b. record { limit = limit; taken = taken } ∷ b) (takes_from d (n + 1) steps))

no_takes_from : (d dest n : ℕ) (steps : List RecordedStep) → dest ≢ d → takes_at d (numbered_from dest n steps) ≡ []
no_takes_from d dest n [] apart = refl
no_takes_from d dest n (s ∷ steps) apart = rw (ne_eqb dest d apart) (no_takes_from d dest (n + 1) steps apart)

no_takes_later : (d a : ℕ) (histories : List (List RecordedStep)) → d < a → takes_at d (all_numbered a histories) ≡ []
no_takes_later d a [] later = refl
no_takes_later d a (h ∷ histories) later =
    takes_at-append d (numbered_from a (most_steps * a) h) (all_numbered (a + 1) histories)
    ∙ (ap (λ b. b ++ takes_at d (all_numbered (a + 1) histories)) (no_takes_from d a (most_steps * a) h (λ e. absurd (omega (arith, e, later))))
    ∙ no_takes_later d (a + 1) histories (omega (arith, later)))

pub takes_of_history : (d a place : ℕ) (histories : List (List RecordedStep)) → a + place ≡ d → takes_at d (all_numbered a histories) ≡ takes_in_history (slice_index_or histories place [])
takes_of_history d a place [] is = refl
takes_of_history d a zero (h ∷ histories) is =
    let same : a ≡ d = omega (arith, is) in
    takes_at-append d (numbered_from a (most_steps * a) h) (all_numbered (a + 1) histories)
    ∙ (ap (λ b. takes_at d (numbered_from a (most_steps * a) h) ++ b) (no_takes_later d (a + 1) histories (omega (arith, is)))
    ∙ (append-nil (takes_at d (numbered_from a (most_steps * a) h))
    ∙ subst (λ k. takes_at d (numbered_from k (most_steps * a) h) ≡ takes_in_history h) (sym same) (takes_from d (most_steps * a) h)))
takes_of_history d a (suc place) (h ∷ histories) is =
    takes_at-append d (numbered_from a (most_steps * a) h) (all_numbered (a + 1) histories)
    ∙ (ap (λ b. b ++ takes_at d (all_numbered (a + 1) histories)) (no_takes_from d a (most_steps * a) h (λ e. absurd (omega (arith, e, is))))
    ∙ takes_of_history d (a + 1) place histories (omega (arith, is)))
