-- Entries in rising order.
use Rattle.std.proofs.Common.{◌≡◌, ℕ, suc, ◌+◌, ◌<◌, ◌≤◌, Bool, true, false, cond, leb, ltb, List, [], ◌∷◌, ◌++◌, take, drop, filter, All, length, refl, sym, ap, ◌∙◌, subst, arith}
use Rattle.std.specs.List.{AllWithin}
use Rattle.std.specs.List.Sorted.{IsNonDecreasingBy, IsPartitionPoint}
use Rattle.std.proofs.lemmas.Bool.{ltb-false, ltb-true, le-leb, lt-leb}
use Rattle.std.proofs.lemmas.List.{take-append-drop, get_or-take, get_or-drop, length-take, length-drop, append-nil}
use Rattle.std.proofs.lemmas.List.Elements.{filter-append, All-head, All-tail}
use Rattle.std.proofs.lemmas.List.Sorted.{IsNonDecreasingBy-take, IsNonDecreasingBy-drop}
use Rattle.hash_ring.specs.Entry.{Entry, place_of}
use Rattle.hash_ring.specs.Walk.{in_rising_order, with_rising, from_position, below_position}

rising_tail : (e : Entry) (es : List Entry) → IsNonDecreasingBy place_of (e ∷ es) → IsNonDecreasingBy place_of es
rising_tail e es up = λ i j d le within. up (suc i) (suc j) d (omega arith) (omega arith)

with_rising-first : (e : Entry) (es : List Entry) → IsNonDecreasingBy place_of (e ∷ es) → with_rising e es ≡ e ∷ es
with_rising-first e [] up = refl
with_rising-first e (x ∷ xs) up =
    let le : place_of e ≤ place_of x = up 0 1 e (omega arith) (omega arith) in
    ap (λ b. cond b (e ∷ (x ∷ xs)) (x ∷ with_rising e xs)) (le-leb (place_of e) (place_of x) le)

-- what rises already does not change
pub rising_same : (es : List Entry) → IsNonDecreasingBy place_of es → in_rising_order es ≡ es
rising_same [] up = refl
rising_same (e ∷ es) up = ap (with_rising e) (rising_same es (rising_tail e es up)) ∙ with_rising-first e es up

filter_all : (p : Entry → Bool) (es : List Entry) → All (λ e. p e ≡ true) es → filter p es ≡ es
filter_all p [] all = refl
filter_all p (e ∷ es) all =
    ap (λ b. cond b (e ∷ filter p es) (filter p es)) (All-head (λ x. p x ≡ true) e es all) ∙ ap (λ l. e ∷ l) (filter_all p es (All-tail (λ x. p x ≡ true) e es all))

filter_none : (p : Entry → Bool) (es : List Entry) → All (λ e. p e ≡ false) es → filter p es ≡ []
filter_none p [] all = refl
filter_none p (e ∷ es) all =
    ap (λ b. cond b (e ∷ filter p es) (filter p es)) (All-head (λ x. p x ≡ false) e es all) ∙ filter_none p es (All-tail (λ x. p x ≡ false) e es all)

take_passes : (p : Entry → Bool) (es : List Entry) (i : ℕ) → AllWithin (λ e. p e ≡ true) es 0 i → All (λ e. p e ≡ true) (take i es)
take_passes p es i pass = λ k d within.
    let below : k < i = omega (arith, length-take i es) in
    subst (λ e. p e ≡ true) (sym (get_or-take i es k d below)) (pass k d (omega arith) below)

drop_fails : (p : Entry → Bool) (es : List Entry) (i : ℕ) → AllWithin (λ e. p e ≡ false) es i (length es) → All (λ e. p e ≡ false) (drop i es)
drop_fails p es i fail = λ k d within.
    let inside : i + k < length es = omega (arith, length-drop i es) in
    subst (λ e. p e ≡ false) (sym (get_or-drop i es k d)) (fail (i + k) d (omega arith) inside)

take_fails : (p q : Entry → Bool) (es : List Entry) (i : ℕ) → ((e : Entry) → p e ≡ true → q e ≡ false) → AllWithin (λ e. p e ≡ true) es 0 i → All (λ e. q e ≡ false) (take i es)
take_fails p q es i against pass = λ k d within. against _ (take_passes p es i pass k d within)

drop_passes : (p q : Entry → Bool) (es : List Entry) (i : ℕ) → ((e : Entry) → p e ≡ false → q e ≡ true) → AllWithin (λ e. p e ≡ false) es i (length es) → All (λ e. q e ≡ true) (drop i es)
drop_passes p q es i for fail = λ k d within. for _ (drop_fails p es i fail k d within)

filter_cut : (p : Entry → Bool) (es : List Entry) (i : ℕ) → filter p es ≡ filter p (take i es) ++ filter p (drop i es)
filter_cut p es i = ap (filter p) (sym (take-append-drop i es)) ∙ filter-append p (take i es) (drop i es)

filter_front : (p : Entry → Bool) (es : List Entry) (i : ℕ) → All (λ e. p e ≡ true) (take i es) → All (λ e. p e ≡ false) (drop i es) → filter p es ≡ take i es
filter_front p es i front back =
    filter_cut p es i ∙ ap (λ l. l ++ filter p (drop i es)) (filter_all p (take i es) front) ∙ ap (λ l. take i es ++ l) (filter_none p (drop i es) back) ∙ append-nil (take i es)

filter_back : (p : Entry → Bool) (es : List Entry) (i : ℕ) → All (λ e. p e ≡ false) (take i es) → All (λ e. p e ≡ true) (drop i es) → filter p es ≡ drop i es
filter_back p es i front back =
    filter_cut p es i ∙ ap (λ l. l ++ filter p (drop i es)) (filter_none p (take i es) front) ∙ filter_all p (drop i es) back

abbrev pub is_below : ℕ → Entry → Bool
is_below place e = ltb (place_of e) place

below_means : (place : ℕ) (e : Entry) → is_below place e ≡ true → leb place (place_of e) ≡ false
below_means place e h = lt-leb place (place_of e) (ltb-true (place_of e) place h)

above_means : (place : ℕ) (e : Entry) → is_below place e ≡ false → leb place (place_of e) ≡ true
above_means place e h = le-leb place (place_of e) (ltb-false (place_of e) place h)

-- the first entries, up to the first that is not below a position, are those below it
pub below_is_front : (place : ℕ) (es : List Entry) (i : ℕ) → IsNonDecreasingBy place_of es → IsPartitionPoint (λ e. is_below place e ≡ true) (λ e. is_below place e ≡ false) es i → in_rising_order (below_position place es) ≡ take i es
below_is_front place es i up at =
    ap in_rising_order (filter_front (is_below place) es i (take_passes (is_below place) es i at.0) (drop_fails (is_below place) es i at.1)) ∙ rising_same (take i es) (IsNonDecreasingBy-take place_of i es up)

-- and the others are those at or above it
pub above_is_back : (place : ℕ) (es : List Entry) (i : ℕ) → IsNonDecreasingBy place_of es → IsPartitionPoint (λ e. is_below place e ≡ true) (λ e. is_below place e ≡ false) es i → in_rising_order (from_position place es) ≡ drop i es
above_is_back place es i up at =
    ap in_rising_order (filter_back (λ e. leb place (place_of e)) es i (take_fails (is_below place) (λ e. leb place (place_of e)) es i (below_means place) at.0) (drop_passes (is_below place) (λ e. leb place (place_of e)) es i (above_means place) at.1))
    ∙ rising_same (drop i es) (IsNonDecreasingBy-drop place_of i es up)
