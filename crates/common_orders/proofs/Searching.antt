-- The search for a common order, one list after the other.
use Rattle.std.proofs.Common.{◌≡◌, ◌≢◌, ℕ, zero, suc, ◌+◌, ◌≤◌, ◌<◌, inl, inr, Bool, true, List, [], ◌∷◌, ◌++◌, length, refl, sym, ap, subst, arith}
use Rattle.std.proofs.lemmas.Grind.{common_steps}
use Rattle.std.proofs.lemmas.Bool.Decides.{eqb_tells, nat_tests}
use native.Mathlib.Numerals.{unary_clauses}
use Rattle.std.specs.Prelude.{if◌then◌else◌, ◌==◌, take, slice_index_or, cond, nat_eq, nat_lt}
use Rattle.common_orders.specs.CommonOrder.{times, times_in_all, HoldsEachOnce, HoldEachOnce}
use Rattle.common_orders.specs.OrderSearch.{rest, begins, times_first, times_behind, without_first, all_without_first, IsWaiting, AreAllWaiting, AreAllEmpty, IsNext, HasReady, all_left, uncovers, all_uncover}
use Rattle.common_orders.proofs.Orderings.{uncovers_all, times_all_left, none_all_left}

begins_or_behind : (x : ℕ) (l : List ℕ) → times x l ≡ begins x l + times x (rest l)
begins_or_behind x [] = refl
begins_or_behind x (y ∷ ys) = refl

pub first_or_behind : (x : ℕ) (ls : List (List ℕ)) → times_in_all x ls ≡ times_first x ls + times_behind x ls
first_or_behind x [] = refl
first_or_behind x (l ∷ ls) = omega (arith, begins_or_behind x l, first_or_behind x ls)

-- ---- one element more

take_suc : {A : Type 0} (ks : List A) (i : ℕ) (d : A) → i < length ks → take (suc i) ks ≡ take i ks ++ slice_index_or ks i d ∷ []
take_suc [] i d lt = absurd (omega (arith, lt))
take_suc (k ∷ ks) zero d lt = refl
take_suc (k ∷ ks) (suc i) d lt = ap (λ r. k ∷ r) (take_suc ks i d (omega (arith, lt)))

pub take_one_more : {A : Type 0} (ks : List A) (i : ℕ) (d : A) → i < length ks → take (i + 1) ks ≡ take i ks ++ slice_index_or ks i d ∷ []
take_one_more ks i d lt = simp unary_clauses (take_suc ks i d lt)

pub times_push : (x y : ℕ) (xs : List ℕ) → times x (xs ++ y ∷ []) ≡ times x xs + (if y == x then 1 else 0)
times_push x y [] = omega arith
times_push x y (z ∷ zs) = omega (arith, times_push x y zs)

pub times_one_more : (x : ℕ) (xs : List ℕ) (i : ℕ) → i < length xs → times x (take (i + 1) xs) ≡ times x (take i xs) + (if slice_index_or xs i 0 == x then 1 else 0)
times_one_more x xs i lt = rw (take_one_more xs i 0 lt) (times_push x (slice_index_or xs i 0) (take i xs))

pub times_take : (x : ℕ) (xs : List ℕ) (i : ℕ) → times x (take i xs) ≤ times x xs
times_take x xs zero = omega arith
times_take x [] (suc i) = omega arith
times_take x (y ∷ ys) (suc i) = omega (arith, times_take x ys i)

pub behind_push : (x : ℕ) (l : List ℕ) (ls : List (List ℕ)) → times_behind x (ls ++ l ∷ []) ≡ times_behind x ls + times x (rest l)
behind_push x l [] = omega arith
behind_push x l (m ∷ ms) = omega (arith, behind_push x l ms)

pub behind_one_more : (x : ℕ) (ls : List (List ℕ)) (i : ℕ) → i < length ls → times_behind x (take (i + 1) ls) ≡ times_behind x (take i ls) + times x (rest (slice_index_or ls i []))
behind_one_more x ls i lt = rw (take_one_more ls i [] lt) (behind_push x (slice_index_or ls i []) (take i ls))

pub first_push : (x : ℕ) (l : List ℕ) (ls : List (List ℕ)) → times_first x (ls ++ l ∷ []) ≡ times_first x ls + begins x l
first_push x l [] = omega arith
first_push x l (m ∷ ms) = omega (arith, first_push x l ms)

pub uncovers_push : (x y : ℕ) (l : List ℕ) (ls : List (List ℕ)) → all_uncover x y (ls ++ l ∷ []) ≡ all_uncover x y ls + uncovers x y l
uncovers_push x y l [] = omega arith
uncovers_push x y l (m ∷ ms) = omega (arith, uncovers_push x y l ms)

pub uncovers_take : (x y : ℕ) (ls : List (List ℕ)) (i : ℕ) → all_uncover x y (take i ls) ≤ all_uncover x y ls
uncovers_take x y ls zero = omega arith
uncovers_take x y [] (suc i) = omega arith
uncovers_take x y (l ∷ ls) (suc i) = omega (arith, uncovers_take x y ls i)

pub left_push : (l : List ℕ) (ls : List (List ℕ)) → all_left (ls ++ l ∷ []) ≡ all_left ls + length l
left_push l [] = omega arith
left_push l (m ∷ ms) = omega (arith, left_push l ms)

pub all_without_first_push : (x : ℕ) (l : List ℕ) (ls : List (List ℕ)) → all_without_first x (ls ++ l ∷ []) ≡ all_without_first x ls ++ without_first x l ∷ []
all_without_first_push x l [] = refl
all_without_first_push x l (m ∷ ms) = ap (λ r. without_first x m ∷ r) (all_without_first_push x l ms)

pub held_at : (x i : ℕ) (ls : List (List ℕ)) → times x (slice_index_or ls i []) ≤ times_in_all x ls
held_at x i [] = omega arith
held_at x zero (l ∷ ls) = omega arith
held_at x (suc i) (l ∷ ls) = omega (arith, held_at x i ls)

pub uncovers_fits : (x y i : ℕ) (ls : List (List ℕ)) → i < length ls → all_uncover x y (take i ls) + uncovers x y (slice_index_or ls i []) ≤ times_behind y ls
uncovers_fits x y i ls lt =
    let pushed : all_uncover x y (take (i + 1) ls) ≡ all_uncover x y (take i ls) + uncovers x y (slice_index_or ls i []) = rw (take_one_more ls i [] lt) (uncovers_push x y (slice_index_or ls i []) (take i ls)) in
    omega (arith, pushed, uncovers_take x y ls (i + 1), uncovers_all x y ls)

-- lists that hold no number twice have it behind at most one first place each
rest_times : (x : ℕ) (l : List ℕ) → times x (rest l) ≤ times x l
rest_times x [] = omega arith
rest_times x (y ∷ ys) = omega arith

pub behind_once : (x : ℕ) (l : List ℕ) → HoldsEachOnce l → times x (rest l) ≤ 1
behind_once x l once = omega (arith, once x, rest_times x l)

pub behind_few : (x i : ℕ) (ls : List (List ℕ)) → HoldEachOnce i ls → times_behind x (take i ls) ≤ i
behind_few x zero ls once = omega arith
behind_few x (suc i) [] once = omega arith
behind_few x (suc i) (l ∷ ls) once =
    let here : times x (rest l) ≤ 1 = behind_once x l (once 0 (omega arith)) in
    let others : times_behind x (take i ls) ≤ i = behind_few x i ls (λ k lt. once (suc k) (omega (arith, lt))) in
    omega (arith, here, others)

-- a set that has the first numbers has them with one more
pub seen_push : (y x : ℕ) (xs : List ℕ) (b : Bool) → b ≡ nat_lt 0 (times y xs) → cond (nat_eq x y) true b ≡ nat_lt 0 (times y (xs ++ x ∷ []))
seen_push y x xs b is = let pushed = times_push y x xs in grind (arith, common_steps, nat_tests)

pub empty_push : (l : List ℕ) (ls : List (List ℕ)) → AreAllEmpty ls → l ≡ [] → AreAllEmpty (ls ++ l ∷ [])
empty_push l [] none is = (is, tt)
empty_push l (m ∷ ms) none is = (none.0, empty_push l ms none.1 is)

pub empty_at : (i : ℕ) (ls : List (List ℕ)) → AreAllEmpty ls → slice_index_or ls i [] ≡ []
empty_at i [] none = refl
empty_at zero (l ∷ ls) none = none.0
empty_at (suc i) (l ∷ ls) none = empty_at i ls none.1

-- ---- what is ready

-- with nothing ready each list waits
waiting_one : (all : List (List ℕ)) (l : List ℕ) → ((x : ℕ) → IsNext x all → ⊥) → ((x : ℕ) → times x l ≤ times_in_all x all) → IsWaiting all l
waiting_one all [] none held = tt
waiting_one all (x ∷ l) none held = elim (eqb_tells (times_behind x all) 0) [
  | inl first ↦ absurd (none x (record { first = first.1; held = let here = held x in let own : times x (x ∷ l) ≡ 1 + times x l = grind (arith, nat_tests) in omega (arith, here, own) }))
  | inr other ↦ omega (arith, other.1)
]

waiting_all : (all ls : List (List ℕ)) → ((x : ℕ) → IsNext x all → ⊥) → ((x : ℕ) → times_in_all x ls ≤ times_in_all x all) → AreAllWaiting all ls
waiting_all all [] none held = tt
waiting_all all (l ∷ ls) none held = (waiting_one all l none (λ x. omega (arith, held x)), waiting_all all ls none (λ x. omega (arith, held x)))

pub waiting : (ls : List (List ℕ)) → HasReady ls [] → AreAllWaiting ls ls
waiting ls ready = waiting_all ls ls (λ x next. absurd (omega (arith, ready.all x next))) (λ x. omega arith)

pub own_there : (x : ℕ) (xs : List ℕ) → 0 < times x (xs ++ x ∷ [])
own_there x xs = grind (arith, common_steps, nat_tests, times_push x x xs)

other_there : (x y : ℕ) (before after : List ℕ) → x ≢ y → 0 < times y (before ++ x ∷ []) → times y before ≤ times y after → 0 < times y after
other_there x y before after other there more = grind (arith, common_steps, nat_tests, times_push y x before)

-- the number that was ready is placed, and what then waits for no list is ready
pub ready_after : (x : ℕ) (ls : List (List ℕ)) (before after : List ℕ) → HasReady ls (before ++ x ∷ [])
    → ((y : ℕ) → times y before ≤ times y after)
    → ((y : ℕ) → times y before < times y after → times_behind y (all_without_first x ls) ≡ 0)
    → ((y : ℕ) → 0 < times_behind y ls → times_behind y (all_without_first x ls) ≡ 0 → 0 < times y after)
    → HasReady (all_without_first x ls) after
ready_after x ls before after ready more first all =
    let behind : times_behind x ls ≡ 0 = ready.first x (own_there x before) in
    record {
      first = λ y there. elim (eqb_tells (times y before) 0) [
        | inl none ↦ first y (omega (arith, none.1, there))
        | inr some ↦ (let before_it = ready.first y (omega (arith, times_push y x before, some.1)) in omega (arith, before_it, uncovers_all x y ls))
      ];
      all = λ y next. elim (eqb_tells (times_behind y ls) 0) [
        | inl none ↦
            let held : 0 < times_in_all y ls = omega (arith, next.held, times_all_left y x ls) in
            let there = ready.all y (record { first = none.1; held = held }) in
            elim (eqb_tells x y) [
              | inl own ↦ absurd (omega (arith, subst (λ k. 0 < times_in_all k (all_without_first x ls)) (sym own.1) next.held, none_all_left x ls, behind))
              | inr other ↦ other_there x y before after other.1 there (more y)
            ]
        | inr some ↦ all y (omega (arith, some.1)) next.first
      ];
    }
