-- The laws of places, walks and choices.
use Rattle.std.proofs.Common.{◌≡◌, ℕ, zero, suc, ◌<◌, ◌≤◌, ◌↔◌, Bool, true, false, leb, ltb, ◌||◌, List, [], ◌∷◌, ◌++◌, map, filter, take, length, Contains, IsPermutation, not, cond, refl, sym, ap, ◌∙◌, subst, arith, get_or}
use Rattle.std.proofs.lemmas.Bool.{eqb-true, eq-eqb, false≢true}
use Rattle.std.proofs.lemmas.List.{take_all}
use Rattle.relay_base.specs.declared.dest_id.DestId.{DestId}
use Rattle.relay_base.specs.DestIds.{same_id}
use Rattle.hash_ring.specs.Entry.{Entry, place_of, node_of}
use Rattle.hash_ring.specs.Walk.{in_rising_order, with_rising, from_position, below_position, walk, nodes_of, taken_by, mark_of, choice}
use Rattle.hash_ring.specs.Laws.{FreePlaceIsLeast, RisingIsInOrder, WalkVisitsEachOnce, RisingKeepsWalks, AllNodesChosen, HasEachOnce, SmallerChoiceIsPrefix, PlainChoiceIsFirstNodes}
use Rattle.hash_ring.proofs.BoolLemmas.{or_true}
use Rattle.hash_ring.proofs.PlacingLemmas.{free_is_free, free_is_least, free_is_from}
use Rattle.std.proofs.lemmas.Bool.Decides.{nat_tests}
use Rattle.std.proofs.lemmas.List.Sorted.{IsPermutation-refl, IsPermutation-sym, IsPermutation-trans, IsPermutation-cons, IsPermutation-middle, IsPermutation-append, IsPermutation-filter_both}
use Rattle.hash_ring.proofs.FilterLemmas.{IsFrom, IsAscending, ascending_rising, filter_rising, rising_twice}
use Rattle.hash_ring.proofs.TakenLemmas.{is_in, is_in-taken, id_of, taken_is_mentions}
use Rattle.hash_ring.proofs.WalkLemmas.{is_in_walk, length-taken_of_walk}
use Rattle.hash_ring.proofs.BelowLemmas.{taken_once}

pub least_free : FreePlaceIsLeast
least_free = λ entries wanted. record { from = free_is_from entries wanted; free = free_is_free entries wanted; least = free_is_least entries wanted }

-- ---- the entries in rising order

permuted_with_rising : (e : Entry) (es : List Entry) → IsPermutation (e ∷ es) (with_rising e es)
permuted_with_rising e [] = IsPermutation-refl (e ∷ [])
permuted_with_rising e (x ∷ xs) =
    let rest : IsPermutation (e ∷ xs) (with_rising e xs) = permuted_with_rising e xs in
    let swapped : IsPermutation (e ∷ (x ∷ xs)) (x ∷ (e ∷ xs)) = IsPermutation-sym (x ∷ (e ∷ xs)) (e ∷ (x ∷ xs)) (IsPermutation-middle (x ∷ []) e xs) in
    elim (leb (place_of e) (place_of x)) as (λ b. IsPermutation (e ∷ (x ∷ xs)) (cond b (e ∷ (x ∷ xs)) (x ∷ with_rising e xs))) [
      | true ↦ IsPermutation-refl (e ∷ (x ∷ xs))
      | false ↦ IsPermutation-trans (e ∷ (x ∷ xs)) (x ∷ (e ∷ xs)) (x ∷ with_rising e xs) swapped (IsPermutation-cons x (e ∷ xs) (with_rising e xs) rest)
    ]

permuted_rising : (es : List Entry) → IsPermutation es (in_rising_order es)
permuted_rising [] = IsPermutation-refl []
permuted_rising (e ∷ es) = IsPermutation-trans (e ∷ es) (e ∷ in_rising_order es) (with_rising e (in_rising_order es)) (IsPermutation-cons e es (in_rising_order es) (permuted_rising es)) (permuted_with_rising e (in_rising_order es))

from_at : (p : ℕ) (es : List Entry) (k : ℕ) (d : Entry) → IsFrom p es → k < length es → p ≤ place_of (get_or es k d)
from_at p [] k d from within = absurd (omega arith)
from_at p (x ∷ xs) zero d from within = from.0
from_at p (x ∷ xs) (suc k) d from within = from_at p xs k d from.1 (omega arith)

ascending_at : (es : List Entry) (i j : ℕ) (d : Entry) → IsAscending es → i ≤ j → j < length es → place_of (get_or es i d) ≤ place_of (get_or es j d)
ascending_at [] i j d up le within = absurd (omega arith)
ascending_at (x ∷ xs) zero zero d up le within = omega arith
ascending_at (x ∷ xs) zero (suc j) d up le within = from_at (place_of x) xs j d up.0 (omega arith)
ascending_at (x ∷ xs) (suc i) zero d up le within = absurd (omega arith)
ascending_at (x ∷ xs) (suc i) (suc j) d up le within = ascending_at xs i j d up.1 (omega arith) (omega arith)

pub rising_in_order : RisingIsInOrder
rising_in_order = λ es. record { same = permuted_rising es; rises = λ i j d le within. ascending_at (in_rising_order es) i j d (ascending_rising es) le within }

-- ---- walks

above_or_below : (p : ℕ) (e : Entry) → ltb (place_of e) p ≡ not (leb p (place_of e))
above_or_below p e = grind (arith, nat_tests)

pub walk_each_once : WalkVisitsEachOnce
walk_each_once = λ es p.
    let above = from_position p es in
    let below = below_position p es in
    IsPermutation-trans es (above ++ below) (walk es p)
    (IsPermutation-filter_both (λ e. leb p (place_of e)) (λ e. ltb (place_of e) p) (above_or_below p) es)
    (IsPermutation-append above (in_rising_order above) below (in_rising_order below) (permuted_rising above) (permuted_rising below))

part-rising : (keep : Entry → Bool) (es : List Entry) → in_rising_order (filter keep (in_rising_order es)) ≡ in_rising_order (filter keep es)
part-rising keep es = ap in_rising_order (filter_rising keep es) ∙ rising_twice (filter keep es)

pub walk-rising : RisingKeepsWalks
walk-rising = λ es p.
    ap (λ l. l ++ in_rising_order (below_position p (in_rising_order es))) (part-rising (λ e. leb p (place_of e)) es)
    ∙ ap (λ l. in_rising_order (from_position p es) ++ l) (part-rising (λ e. ltb (place_of e) p) es)

-- ---- each node once

pub contains_from_is_in : (n : DestId) (ns : List DestId) → is_in id_of n ns ≡ true → Contains ns n
contains_from_is_in n [] there = absurd (false≢true there)
contains_from_is_in n (m ∷ ms) there =
    let rest = contains_from_is_in n ms in
    elim (same_id m n) as (λ b. same_id m n ≡ b → (b || is_in id_of n ms) ≡ true → Contains (m ∷ ms) n) [
      | true ↦ λ e _. let same : m ≡ n = ap (λ (k : ℕ). let d : DestId = record { 0 = k } in d) (eqb-true (m.0) (n.0) e) in (0, omega arith, same)
      | false ↦ λ _ h. let c = rest h in (suc c.0, omega (arith, c.1), c.2)
    ] refl there

is_in_at : (n : DestId) (ns : List DestId) (k : ℕ) (d : DestId) → k < length ns → get_or ns k d ≡ n → is_in id_of n ns ≡ true
is_in_at n [] k d within at = absurd (omega arith)
is_in_at n (m ∷ ms) zero d within at = ap (λ b. b || is_in id_of n ms) (eq-eqb (m.0) (n.0) (ap (λ (x : DestId). x.0) at))
is_in_at n (m ∷ ms) (suc k) d within at = or_true (same_id m n) (is_in id_of n ms) (is_in_at n ms k d (omega arith) at)

pub is_in_from_contains : (n : DestId) (ns : List DestId) → Contains ns n → is_in id_of n ns ≡ true
is_in_from_contains n ns c = is_in_at n ns c.0 n c.1 c.2

same_contained : (ns ms : List DestId) (n : DestId) → is_in id_of n ns ≡ is_in id_of n ms → Contains ns n ↔ Contains ms n
same_contained ns ms n same = (λ c. contains_from_is_in n ms (sym same ∙ is_in_from_contains n ns c), λ c. contains_from_is_in n ns (same ∙ is_in_from_contains n ms c))

pub plain_choice : PlainChoiceIsFirstNodes
plain_choice = λ ring p factor. ap (take factor) (taken_is_mentions (map node_of (walk ring.entries p)))

pub each_once : AllNodesChosen
each_once = λ ring p factor enough.
    let es = ring.entries in
    let ms = map node_of (walk es p) in
    let ns = taken_by id_of ms in
    let many : length (taken_by id_of (map node_of es)) ≡ length (nodes_of es) = ap length (taken_is_mentions (map node_of es)) in
    let whole : choice ring p factor false ≡ ns = take_all factor ns (omega (arith, length-taken_of_walk id_of es p, many, enough)) in
    subst (λ (l : List DestId). HasEachOnce l es) (sym whole)
    (record {
      once = taken_once id_of ms;
      same = λ node. same_contained ns (map node_of es) node (is_in-taken id_of node ms ∙ is_in_walk id_of node es p);
    })

-- ---- prefixes

take_shorter : {X : Type 0} (m n : ℕ) (xs : List X) → m ≤ n → take m xs ≡ take m (take n xs)
take_shorter zero n xs le = refl
take_shorter (suc m) zero xs le = absurd (omega arith)
take_shorter (suc m) (suc n) [] le = refl
take_shorter (suc m) (suc n) (x ∷ xs) le = ap (λ l. x ∷ l) (take_shorter m n xs (omega arith))

pub choice_prefix : SmallerChoiceIsPrefix
choice_prefix = λ ring p smaller larger diverse le. take_shorter smaller larger (taken_by (mark_of ring.servers diverse) (map node_of (walk ring.entries p))) le
