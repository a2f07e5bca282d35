-- Placing one number after the other.
use Rattle.std.proofs.Common.{◌≡◌, ◌≢◌, ℕ, zero, suc, ◌+◌, ◌≤◌, ◌<◌, inl, inr, List, [], ◌∷◌, ◌++◌, set, length, refl, sym, ap, ◌∙◌, subst, arith}
use Rattle.std.proofs.lemmas.Bool.Decides.{eqb_tells, nat_tests}
use native.Mathlib.Numerals.{unary_clauses}
use Rattle.std.specs.Prelude.{if◌then◌else◌, take, drop, map, slice_index_or}
use Rattle.common_orders.specs.CommonOrder.{times, times_in_all, IsWithin, AreAllWithin, IsCommonOrder}
use Rattle.common_orders.specs.OrderSearch.{rest, times_behind, without_first, all_without_first, IsWaiting, AreAllWaiting, AreAllEmpty, IsNext, all_left, uncovers, all_uncover}

-- a subsequence of more
within_more : (x : ℕ) (xs ys : List ℕ) → IsWithin xs ys → IsWithin xs (x ∷ ys)
within_more x [] ys w = tt
within_more x (z ∷ xs) ys w = inr w

within_all : (xs : List ℕ) → IsWithin xs xs
within_all [] = tt
within_all (x ∷ xs) = inl (refl, within_all xs)

-- a subsequence without its first number
within_rest : (x : ℕ) (xs ys : List ℕ) → IsWithin (x ∷ xs) ys → IsWithin xs ys
within_rest x xs [] w = absurd (omega (arith, w))
within_rest x xs (y ∷ ys) (inl w) = within_more y xs ys w.1
within_rest x xs (y ∷ ys) (inr w) = within_more y xs ys (within_rest x xs ys w)

-- a subsequence holds a number no more often
within_times : (x : ℕ) (xs ys : List ℕ) → IsWithin xs ys → times x xs ≤ times x ys
within_times x [] ys w = omega arith
within_times x (z ∷ xs) [] w = absurd (omega (arith, w))
within_times x (z ∷ xs) (y ∷ ys) (inl w) = let same : times x (z ∷ xs) ≡ times x (y ∷ xs) = ap (λ k. times x (k ∷ xs)) w.0 in omega (arith, same, within_times x xs ys w.1)
within_times x (z ∷ xs) (y ∷ ys) (inr w) = omega (arith, within_times x (z ∷ xs) ys w)

-- what is left is within what had all
left_one : (x : ℕ) (l ys : List ℕ) → IsWithin l ys → IsWithin (without_first x l) ys
left_one x [] ys w = tt
left_one x (z ∷ l) ys w = elim (eqb_tells z x) [
  | inl own ↦ rw own.0 (within_rest z l ys w)
  | inr other ↦ rw other.0 w
]

pub left : (x : ℕ) (ls : List (List ℕ)) (ys : List ℕ) → AreAllWithin ls ys → AreAllWithin (all_without_first x ls) ys
left x [] ys w = tt
left x (l ∷ ls) ys w = (left_one x l ys w.0, left x ls ys w.1)

-- what is placed is first
placed_one : (x : ℕ) (l ys : List ℕ) → IsWithin (without_first x l) ys → IsWithin l (x ∷ ys)
placed_one x [] ys w = tt
placed_one x (z ∷ l) ys w = elim (eqb_tells z x) [
  | inl own ↦ inl (own.1, subst (λ b. IsWithin (if b then l else z ∷ l) ys) own.0 w)
  | inr other ↦ inr (subst (λ b. IsWithin (if b then l else z ∷ l) ys) other.0 w)
]

all_without_first_within : (x : ℕ) (ls : List (List ℕ)) (ys : List ℕ) → AreAllWithin (all_without_first x ls) ys → AreAllWithin ls (x ∷ ys)
all_without_first_within x [] ys w = tt
all_without_first_within x (l ∷ ls) ys w = (placed_one x l ys w.0, all_without_first_within x ls ys w.1)

-- how often numbers are left
times_left : (y x : ℕ) (l : List ℕ) → times y (without_first x l) ≤ times y l
times_left y x [] = omega arith
times_left y x (z ∷ l) = elim (eqb_tells z x) [
  | inl own ↦ rw own.0 (omega arith)
  | inr other ↦ rw other.0 (omega arith)
]

pub times_all_left : (y x : ℕ) (ls : List (List ℕ)) → times_in_all y (all_without_first x ls) ≤ times_in_all y ls
times_all_left y x [] = omega arith
times_all_left y x (l ∷ ls) = omega (arith, times_left y x l, times_all_left y x ls)

none_left : (x : ℕ) (l : List ℕ) → times x (without_first x l) ≤ times x (rest l)
none_left x [] = omega arith
none_left x (z ∷ l) = elim (eqb_tells z x) [
  | inl own ↦ rw own.0 (omega arith)
  | inr other ↦ rw (other.0, other.0) (omega arith)
]

pub none_all_left : (x : ℕ) (ls : List (List ℕ)) → times_in_all x (all_without_first x ls) ≤ times_behind x ls
none_all_left x [] = omega arith
none_all_left x (l ∷ ls) = omega (arith, none_left x l, none_all_left x ls)

pub times_other : (x y : ℕ) (ys : List ℕ) → x ≢ y → times y (x ∷ ys) ≡ times y ys
times_other x y ys other = grind (arith, nat_tests)

pub times_own : (x y : ℕ) (ys : List ℕ) → x ≡ y → times y (x ∷ ys) ≡ 1 + times y ys
times_own x y ys own = grind (arith, nat_tests)

pub placing : (x : ℕ) (ls : List (List ℕ)) (ys : List ℕ) → IsNext x ls → IsCommonOrder (all_without_first x ls) ys → IsCommonOrder ls (x ∷ ys)
placing x ls ys next order =
    let gone : times x ys ≤ 0 = elim (eqb_tells (times x ys) 0) [
      | inl none ↦ omega (arith, none.1)
      | inr some ↦ absurd (omega (arith, order.held x (omega (arith, some.1)), none_all_left x ls, next.first))
    ] in
    record {
      once = λ y. elim (eqb_tells x y) [
        | inl own ↦ omega (arith, times_own x y ys own.1, ap (λ k. times k ys) own.1, gone)
        | inr other ↦ omega (arith, times_other x y ys other.1, order.once y)
      ];
      held = λ y there. elim (eqb_tells x y) [
        | inl own ↦ subst (λ k. 0 < times_in_all k ls) own.1 next.held
        | inr other ↦ omega (arith, order.held y (omega (arith, there, times_other x y ys other.1)), times_all_left y x ls)
      ];
      within = all_without_first_within x ls ys order.within;
    }

-- the first number of the whole is not in a subsequence that begins with another number
within_other : (y : ℕ) (l ys : List ℕ) → IsWithin l (y ∷ ys) → times y ys ≡ 0 → times y (rest l) ≡ 0
within_other y [] ys w none = refl
within_other y (z ∷ l) ys (inl w) none = omega (arith, within_times y l ys w.1, none)
within_other y (z ∷ l) ys (inr w) none = omega (arith, within_times y (z ∷ l) ys w, none)

behind_none : (y : ℕ) (ls : List (List ℕ)) (ys : List ℕ) → AreAllWithin ls (y ∷ ys) → times y ys ≡ 0 → times_behind y ls ≡ 0
behind_none y [] ys w none = refl
behind_none y (l ∷ ls) ys w none = omega (arith, within_other y l ys w.0 none, behind_none y ls ys w.1 none)

-- if each list waits, none begins with the first number of the order, so all are in the rest of it
skip_one : (y : ℕ) (all : List (List ℕ)) (l ys : List ℕ) → times_behind y all ≡ 0 → IsWaiting all l → IsWithin l (y ∷ ys) → IsWithin l ys
skip_one y all [] ys none waits w = tt
skip_one y all (z ∷ l) ys none waits (inl w) = absurd (let same : times_behind z all ≡ times_behind y all = ap (λ k. times_behind k all) w.0 in omega (arith, waits, none, same))
skip_one y all (z ∷ l) ys none waits (inr w) = w

skip_all : (y : ℕ) (all ls : List (List ℕ)) (ys : List ℕ) → times_behind y all ≡ 0 → AreAllWaiting all ls → AreAllWithin ls (y ∷ ys) → AreAllWithin ls ys
skip_all y all [] ys none waits w = tt
skip_all y all (l ∷ ls) ys none waits w = (skip_one y all l ys none waits.0 w.0, skip_all y all ls ys none waits.1 w.1)

within_none : (l : List ℕ) → IsWithin l [] → l ≡ []
within_none [] w = refl
within_none (x ∷ l) w = absurd (omega (arith, w))

all_within_none : (ls : List (List ℕ)) → AreAllWithin ls [] → AreAllEmpty ls
all_within_none [] w = tt
all_within_none (l ∷ ls) w = (within_none l w.0, all_within_none ls w.1)

pub stuck : (ls : List (List ℕ)) (ys : List ℕ) → AreAllWaiting ls ls → ((x : ℕ) → times x ys ≤ 1) → AreAllWithin ls ys → AreAllEmpty ls
stuck ls [] waits once w = all_within_none ls w
stuck ls (y ∷ ys) waits once w =
    let gone : times y ys ≡ 0 = omega (arith, once y, times_own y y ys refl) in
    let none : times_behind y ls ≡ 0 = behind_none y ls ys w gone in
    stuck ls ys waits (λ x. omega (arith, once x, within_times x ys (y ∷ ys) (within_more y ys ys (within_all ys)))) (skip_all y ls ls ys none waits w)

-- each placing leaves less
length_left : (x : ℕ) (l : List ℕ) → length (without_first x l) ≤ length l
length_left x [] = omega arith
length_left x (z ∷ l) = elim (eqb_tells z x) [
  | inl own ↦ rw own.0 (omega arith)
  | inr other ↦ rw other.0 (omega arith)
]

all_length_left : (x : ℕ) (ls : List (List ℕ)) → all_left (all_without_first x ls) ≤ all_left ls
all_length_left x [] = omega arith
all_length_left x (l ∷ ls) = omega (arith, length_left x l, all_length_left x ls)

fewer_one : (x : ℕ) (l : List ℕ) → times x (rest l) ≡ 0 → 0 < times x l → length (without_first x l) < length l
fewer_one x [] none held = absurd (omega (arith, held))
fewer_one x (z ∷ l) none held = elim (eqb_tells z x) [
  | inl own ↦ rw own.0 (omega arith)
  | inr other ↦ absurd (omega (arith, none, held, times_other z x l other.1))
]

pub fewer : (x : ℕ) (ls : List (List ℕ)) → times_behind x ls ≡ 0 → 0 < times_in_all x ls → all_left (all_without_first x ls) < all_left ls
fewer x [] none held = absurd (omega (arith, held))
fewer x (l ∷ ls) none held = elim (eqb_tells (times x l) 0) [
  | inl out ↦ omega (arith, length_left x l, fewer x ls (omega (arith, none)) (omega (arith, held, out.1)))
  | inr some ↦ omega (arith, fewer_one x l (omega (arith, none)) (omega (arith, some.1)), all_length_left x ls)
]

-- the order of nothing
empty_within : (ls : List (List ℕ)) → AreAllEmpty ls → AreAllWithin ls []
empty_within [] none = tt
empty_within (l ∷ ls) none = (subst (λ k. IsWithin k []) (sym none.0) tt, empty_within ls none.1)

pub order_of_none : (ls : List (List ℕ)) → AreAllEmpty ls → IsCommonOrder ls []
order_of_none ls none = record { once = λ x. omega arith; held = λ x there. absurd (omega (arith, there)); within = empty_within ls none }

-- one more list has removed the number
pub one_list_more : (x i : ℕ) (ls : List (List ℕ)) → i < length ls
    → set (all_without_first x (take i ls) ++ drop i ls) i (without_first x (slice_index_or ls i [])) ≡ all_without_first x (take (suc i) ls) ++ drop (suc i) ls
one_list_more x i [] lt = absurd (omega (arith, lt))
one_list_more x zero (l ∷ ls) lt = refl
one_list_more x (suc i) (l ∷ ls) lt = ap (λ r. without_first x l ∷ r) (one_list_more x i ls (omega (arith, lt)))

-- the next list has not removed it yet
pub same_yet : (x i : ℕ) (ls : List (List ℕ)) → slice_index_or (all_without_first x (take i ls) ++ drop i ls) i [] ≡ slice_index_or ls i []
same_yet x zero ls = refl
same_yet x (suc i) [] = refl
same_yet x (suc i) (l ∷ ls) = same_yet x i ls

pub map_set : {A : Type 0} (f : A → List ℕ) (qs : List A) (i : ℕ) (q : A) → map f (set qs i q) ≡ set (map f qs) i (f q)
map_set f [] i q = refl
map_set f (p ∷ qs) zero q = refl
map_set f (p ∷ qs) (suc i) q = ap (λ r. f p ∷ r) (map_set f qs i q)

pub index_map : {A : Type 0} (f : A → List ℕ) (qs : List A) (i : ℕ) (d : A) → i < length qs → slice_index_or (map f qs) i [] ≡ f (slice_index_or qs i d)
index_map f [] i d lt = absurd (omega (arith, lt))
index_map f (p ∷ qs) zero d lt = refl
index_map f (p ∷ qs) (suc i) d lt = index_map f qs i d (omega (arith, lt))

-- one more list of the code has removed the number
pub placed_more : {A : Type 0} (f : A → List ℕ) (qs : List A) (ls : List (List ℕ)) (x i : ℕ) (q d : A)
    → map f qs ≡ all_without_first x (take i ls) ++ drop i ls → i < length qs → i < length ls → f q ≡ without_first x (f (slice_index_or qs i d))
    → map f (set qs i q) ≡ all_without_first x (take (i + 1) ls) ++ drop (i + 1) ls
placed_more f qs ls x i q d so_far in_code lt is =
    let here : f (slice_index_or qs i d) ≡ slice_index_or ls i [] = sym (index_map f qs i d in_code) ∙ (ap (λ r. slice_index_or r i []) so_far ∙ same_yet x i ls) in
    simp unary_clauses (map_set f qs i q ∙ (ap (λ r. set r i (f q)) so_far ∙ (ap (λ k. set (all_without_first x (take i ls) ++ drop i ls) i k) (is ∙ ap (without_first x) here) ∙ one_list_more x i ls lt)))

uncovers_one : (x y : ℕ) (l : List ℕ) → times y (rest (without_first x l)) + uncovers x y l ≡ times y (rest l)
uncovers_one x y [] = refl
uncovers_one x y (z ∷ []) = elim (eqb_tells z x) [
  | inl own ↦ rw own.0 refl
  | inr other ↦ rw other.0 refl
]
uncovers_one x y (z ∷ w ∷ l) = elim (eqb_tells z x) [
  | inl own ↦ rw own.0 (omega arith)
  | inr other ↦ rw other.0 (omega arith)
]

pub uncovers_all : (x y : ℕ) (ls : List (List ℕ)) → times_behind y (all_without_first x ls) + all_uncover x y ls ≡ times_behind y ls
uncovers_all x y [] = refl
uncovers_all x y (l ∷ ls) = omega (arith, uncovers_one x y l, uncovers_all x y ls)
