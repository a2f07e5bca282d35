-- The numbered steps of histories: each number belongs to one step, and a destination's steps are its
-- history.
use Rattle.std.proofs.Common.{◌≡◌, ◌≢◌, ◌<◌, ◌≤◌, ◌+◌, ◌*◌, ℕ, zero, suc, ◌==◌, List, [], ◌∷◌, ◌++◌, length, refl, sym, ap, ◌∙◌, subst, inl, inr, filter, Some, arith, eq-eqb, eqb-true}
use Rattle.std.specs.Prelude.{◌⊎◌, slice_index_or}
use Rattle.std.specs.List.{find, range_with_len}
use Rattle.std.proofs.lemmas.Bool.{ne_eqb, cases_lt}
use Rattle.std.proofs.lemmas.List.{get_or_past}
use Rattle.dest_queue.specs.Queue.{most_steps}
use Rattle.dest_queue.specs.RecordedStep.{RecordedStep}
use Rattle.common_orders.specs.CommonOrder.{times, IsWithin, AreAllWithin}
use Rattle.dest_queue.specs.Numbered.{NumberedStep, numbered_from, all_numbered, numbers_of, history_numbers, step_numbered, steps_in_order}
use Rattle.relay_core.proofs.Members.{IsIn, find_in, in_times, picked_are}

-- ---- numbers rise

Rising : ℕ → List NumberedStep → Type 0
Rising n [] = Unit {0}
Rising n (x ∷ xs) = (n ≤ x.number) × Rising (x.number + 1) xs

rising_lower : (m n : ℕ) (xs : List NumberedStep) → m ≤ n → Rising n xs → Rising m xs
unfolding Rising
rising_lower m n [] l rising = tt
rising_lower m n (x ∷ xs) l rising = (omega (arith, l, rising.0), rising.1)

above : (n : ℕ) (xs : List NumberedStep) → Rising n xs → (x : NumberedStep) → IsIn x xs → n ≤ x.number
unfolding Rising
above n [] rising x within = absurd within
above n (y ∷ xs) rising x (inl same) = let e : x.number ≡ y.number = ap (λ k. k.number) same in omega (arith, e, rising.0)
above n (y ∷ xs) rising x (inr within) = omega (arith, above (y.number + 1) xs rising.1 x within, rising.0)

found_rising : (n : ℕ) (xs : List NumberedStep) → Rising n xs → (x : NumberedStep) → IsIn x xs → find (λ y. y.number == x.number) xs ≡ Some x
unfolding Rising
found_rising n [] rising x within = absurd within
found_rising n (y ∷ xs) rising x (inl same) =
    let e : y.number ≡ x.number = ap (λ k. k.number) (sym same) in rw (eq-eqb y.number x.number e) (ap (λ k. Some k) (sym same))
found_rising n (y ∷ xs) rising x (inr within) =
    let more = above (y.number + 1) xs rising.1 x within in
    let apart : y.number ≢ x.number = λ e. absurd (omega (arith, e, more)) in
    rw (ne_eqb y.number x.number apart) (found_rising (y.number + 1) xs rising.1 x within)

rising_from : (dest n : ℕ) (steps : List RecordedStep) (rest : List NumberedStep) → Rising (n + length steps) rest → Rising n (numbered_from dest n steps ++ rest)
unfolding Rising
rising_from dest n [] rest rising = rising_lower n (n + zero) rest (omega arith) rising
rising_from dest n (step ∷ steps) rest rising =
    let count : n + suc (length steps) ≡ n + 1 + length steps = omega arith in
    (omega arith, rising_from dest (n + 1) steps rest (subst (λ k. Rising k rest) count rising))

-- no history has more steps than numbers
abbrev pub AreShort : List (List RecordedStep) → Type 0
AreShort [] = Unit {0}
AreShort (history ∷ histories) = (length history ≤ most_steps) × AreShort histories

all_rising : (dest : ℕ) (histories : List (List RecordedStep)) → AreShort histories → Rising (most_steps * dest) (all_numbered dest histories)
unfolding Rising
all_rising dest [] short = tt
all_rising dest (history ∷ histories) short =
    rising_from dest (most_steps * dest) history (all_numbered (dest + 1) histories)
    (rising_lower (most_steps * dest + length history) (most_steps * (dest + 1)) (all_numbered (dest + 1) histories) (omega (arith, short.0)) (all_rising (dest + 1) histories short.1))

-- each step is found by its number
pub found_by_number : (histories : List (List RecordedStep)) → AreShort histories → (x : NumberedStep) → IsIn x (all_numbered 0 histories)
    → step_numbered histories x.number ≡ Some x
found_by_number histories short x within = found_rising (most_steps * 0) (all_numbered 0 histories) (all_rising 0 histories short) x within

-- ---- the steps of one history

in_append : (x : NumberedStep) (xs ys : List NumberedStep) → IsIn x (xs ++ ys) → IsIn x xs ⊎ IsIn x ys
in_append x [] ys within = inr within
in_append x (y ∷ xs) ys (inl same) = inl (inl same)
in_append x (y ∷ xs) ys (inr within) = elim (in_append x xs ys within) [
  | inl here ↦ inl (inr here)
  | inr there ↦ inr there
]

in_front : (x : NumberedStep) (xs ys : List NumberedStep) → IsIn x xs → IsIn x (xs ++ ys)
in_front x [] ys within = absurd within
in_front x (y ∷ xs) ys (inl same) = inl same
in_front x (y ∷ xs) ys (inr within) = inr (in_front x xs ys within)

in_back : (x : NumberedStep) (xs ys : List NumberedStep) → IsIn x ys → IsIn x (xs ++ ys)
in_back x [] ys within = within
in_back x (y ∷ xs) ys within = inr (in_back x xs ys within)

dest_from : (dest n : ℕ) (steps : List RecordedStep) (x : NumberedStep) → IsIn x (numbered_from dest n steps) → x.dest ≡ dest
dest_from dest n [] x within = absurd within
dest_from dest n (step ∷ steps) x (inl same) = ap (λ k. k.dest) same
dest_from dest n (step ∷ steps) x (inr within) = dest_from dest (n + 1) steps x within

-- the steps of one history, with their numbers
abbrev pub ordered_at : List (List RecordedStep) → ℕ → List NumberedStep
ordered_at histories d = numbered_from d (most_steps * d) (slice_index_or histories d [])

-- the place of a step
pub record IsAt (a : ℕ) (histories : List (List RecordedStep)) (x : NumberedStep) : Type 0 where
  pub place : ℕ
  pub there : place < length histories
  pub dest : x.dest ≡ a + place
  pub within : IsIn x (numbered_from (a + place) (most_steps * (a + place)) (slice_index_or histories place []))

pub is_at_place : (a : ℕ) (histories : List (List RecordedStep)) (x : NumberedStep) → IsIn x (all_numbered a histories) → IsAt a histories x
is_at_place a [] x within = absurd within
is_at_place a (history ∷ histories) x within = elim (in_append x (numbered_from a (most_steps * a) history) (all_numbered (a + 1) histories) within) [
  | inl here ↦
      let e : a ≡ a + zero = omega arith in
      record {
        place = zero;
        there = omega arith;
        dest = dest_from a (most_steps * a) history x here ∙ e;
        within = subst (λ k. IsIn x (numbered_from k (most_steps * k) history)) e here;
      }
  | inr rest ↦
      let further = is_at_place (a + 1) histories x rest in
      let e : a + 1 + further.place ≡ a + suc further.place = omega arith in
      record {
        place = suc further.place;
        there = omega (arith, further.there);
        dest = further.dest ∙ e;
        within = subst (λ k. IsIn x (numbered_from k (most_steps * k) (slice_index_or histories further.place []))) e further.within;
      }
]

in_all : (a place : ℕ) (histories : List (List RecordedStep)) (x : NumberedStep) → place < length histories
    → IsIn x (numbered_from (a + place) (most_steps * (a + place)) (slice_index_or histories place [])) → IsIn x (all_numbered a histories)
in_all a place [] x l within = absurd (omega (arith, l))
in_all a zero (history ∷ histories) x l within =
    let e : a + zero ≡ a = omega arith in
    in_front x (numbered_from a (most_steps * a) history) (all_numbered (a + 1) histories) (subst (λ k. IsIn x (numbered_from k (most_steps * k) history)) e within)
in_all a (suc place) (history ∷ histories) x l within =
    let e : a + suc place ≡ a + 1 + place = omega arith in
    in_back x (numbered_from a (most_steps * a) history) (all_numbered (a + 1) histories)
    (in_all (a + 1) place histories x (omega (arith, l)) (subst (λ k. IsIn x (numbered_from k (most_steps * k) (slice_index_or histories place []))) e within))

numbers_from : (dest n : ℕ) (steps : List RecordedStep) → range_with_len n (length steps) ≡ numbers_of (numbered_from dest n steps)
numbers_from dest n [] = refl
numbers_from dest n (step ∷ steps) = ap (λ ns. n ∷ ns) (numbers_from dest (n + 1) steps)

within_history : (a place : ℕ) (histories : List (List RecordedStep)) (more : List (List ℕ)) (order : List ℕ) → AreAllWithin (history_numbers a histories ++ more) order
    → IsWithin (numbers_of (numbered_from (a + place) (most_steps * (a + place)) (slice_index_or histories place []))) order
within_history a place [] more order w = tt
within_history a zero (history ∷ histories) more order w =
    let e : a ≡ a + zero = omega arith in subst (λ k. IsWithin (numbers_of (numbered_from k (most_steps * k) history)) order) e (subst (λ ns. IsWithin ns order) (numbers_from a (most_steps * a) history) w.0)
within_history a (suc place) (history ∷ histories) more order w =
    let e : a + 1 + place ≡ a + suc place = omega arith in
    subst (λ k. IsWithin (numbers_of (numbered_from k (most_steps * k) (slice_index_or histories place []))) order) e (within_history (a + 1) place histories more order w.1)

module _ (histories : List (List RecordedStep)) (short : AreShort histories) (order : List ℕ) where
  in_history : (d : ℕ) (x : NumberedStep) → IsIn x (ordered_at histories d) → IsIn x (all_numbered 0 histories)
  in_history d x within = by_case (cases_lt d (length histories))
    where
      by_case : (d < length histories) ⊎ (length histories ≤ d) → IsIn x (all_numbered 0 histories)
      by_case (inl l) =
          let e : d ≡ 0 + d = omega arith in
          in_all 0 d histories x l (subst (λ k. IsIn x (numbered_from k (most_steps * k) (slice_index_or histories d []))) e within)
      by_case (inr past) = absurd (rw (get_or_past histories d [] past) at within)

  -- the steps of a destination in the order are its history
  pub history_in_order : (d : ℕ) (more : List (List ℕ)) → AreAllWithin (history_numbers 0 histories ++ more) order → ((n : ℕ) → times n order ≤ 1)
      → filter (λ x. x.dest == d) (steps_in_order histories order) ≡ ordered_at histories d
  history_in_order d more w once =
      let e : 0 + d ≡ d = omega arith in
      picked_are (step_numbered histories) (λ x. x.dest == d) (ordered_at histories d) order
      (subst (λ k. IsWithin (numbers_of (numbered_from k (most_steps * k) (slice_index_or histories d []))) order) e (within_history 0 d histories more order w))
      (λ x within. (found_by_number histories short x (in_history d x within), eq-eqb x.dest d (dest_from d (most_steps * d) (slice_index_or histories d []) x within)))
      (λ n x l found holds.
      let own = find_in (λ y. y.number == n) x (all_numbered 0 histories) found in
      let at_place = is_at_place 0 histories x own.0 in
      let same : 0 + at_place.place ≡ at_place.place = omega arith in
      let here : at_place.place ≡ d = sym same ∙ (sym at_place.dest ∙ eqb-true x.dest d holds) in
      let number : x.number ≡ n = eqb-true x.number n own.1 in
      subst (λ k. 0 < times k (numbers_of (ordered_at histories d))) number
      (in_times x (ordered_at histories d) (subst (λ k. IsIn x (ordered_at histories k)) here (subst (λ k. IsIn x (numbered_from k (most_steps * k) (slice_index_or histories at_place.place []))) same at_place.within))))
      once
