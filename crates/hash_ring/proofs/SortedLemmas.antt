-- Sorted entries are the entries in rising order, if each is at its own position.
use Rattle.std.proofs.Common.{◌≡◌, ◌≢◌, ℕ, zero, suc, ◌<◌, ◌≤◌, true, false, cond, eqb, leb, ◌||◌, ◌⊎◌, List, [], ◌∷◌, get_or, map, Contains, IsPermutation, length, refl, sym, ap, ◌∙◌, subst, inl, inr, ⊎_elim, arith}
use Rattle.std.specs.List.{IsDistinct, AllByRecursion}
use Rattle.std.specs.List.Sorted.{IsNonDecreasingBy}
use Rattle.std.proofs.lemmas.Bool.{eq-eqb, leb-true, leb-false, false≢true}
use Rattle.std.proofs.lemmas.Bool.Decides.{nat_tests}
use Rattle.std.proofs.lemmas.List.Sorted.{Contains-permutation, IsPermutation-map, IsPermutation-sym}
use Rattle.std.proofs.lemmas.Map.Keys.{IsDistinct-IsPermutation}
use Rattle.hash_ring.specs.Entry.{Entry, place_of, is_taken, has_shared_place}
use Rattle.hash_ring.specs.Walk.{in_rising_order, with_rising}
use Rattle.hash_ring.proofs.BoolLemmas.{or_false, or_true, same_when_false, eqb_flips}

-- an entry of a list
abbrev pub Mem : Entry → List Entry → Type 0
Mem e [] = ⊥
Mem e (x ∷ xs) = (x ≡ e) ⊎ Mem e xs

-- all entries are above a position
abbrev pub IsAbove : ℕ → List Entry → Type 0
IsAbove p [] = Unit {0}
IsAbove p (x ∷ xs) = (p < place_of x) × IsAbove p xs

-- each entry is below those behind it
abbrev pub IsStrict : List Entry → Type 0
IsStrict [] = Unit {0}
IsStrict (x ∷ xs) = IsAbove (place_of x) xs × IsStrict xs

above_mem : (p : ℕ) (es : List Entry) (e : Entry) → IsAbove p es → Mem e es → p < place_of e
above_mem p [] e above there = absurd there
above_mem p (x ∷ xs) e above there = ⊎_elim (λ (s : x ≡ e). subst (λ y. p < place_of y) s above.0) (λ (m : Mem e xs). above_mem p xs e above.1 m) there

above_from_mem : (p : ℕ) (es : List Entry) → ((e : Entry) → Mem e es → p < place_of e) → IsAbove p es
above_from_mem p [] all = tt
above_from_mem p (x ∷ xs) all = (all x (inl refl), above_from_mem p xs (λ e m. all e (inr m)))

-- ---- an entry put in its order

mem_with_rising : (e f : Entry) (es : List Entry) → Mem f (with_rising e es) → (e ≡ f) ⊎ Mem f es
mem_with_rising e f [] there = there
mem_with_rising e f (x ∷ xs) there =
    let rest = mem_with_rising e f xs in
    elim (leb (place_of e) (place_of x)) as (λ b. Mem f (cond b (e ∷ (x ∷ xs)) (x ∷ with_rising e xs)) → (e ≡ f) ⊎ ((x ≡ f) ⊎ Mem f xs)) [
      | true ↦ λ m. m
      | false ↦ λ m. ⊎_elim (λ (s : x ≡ f). inr (inl s)) (λ (m' : Mem f (with_rising e xs)). ⊎_elim (λ (s : e ≡ f). inl s) (λ (m'' : Mem f xs). inr (inr m'')) (rest m')) m
    ] there

mem_new_with_rising : (e : Entry) (es : List Entry) → Mem e (with_rising e es)
mem_new_with_rising e [] = inl refl
mem_new_with_rising e (x ∷ xs) =
    let rest = mem_new_with_rising e xs in
    elim (leb (place_of e) (place_of x)) as (λ b. Mem e (cond b (e ∷ (x ∷ xs)) (x ∷ with_rising e xs))) [ true ↦ inl refl | false ↦ inr rest ]

mem_old_with_rising : (e f : Entry) (es : List Entry) → Mem f es → Mem f (with_rising e es)
mem_old_with_rising e f [] there = absurd there
mem_old_with_rising e f (x ∷ xs) there =
    let rest = mem_old_with_rising e f xs in
    elim (leb (place_of e) (place_of x)) as (λ b. Mem f (cond b (e ∷ (x ∷ xs)) (x ∷ with_rising e xs))) [
      | true ↦ inr there
      | false ↦ ⊎_elim (λ (s : x ≡ f). inl s) (λ (m : Mem f xs). inr (rest m)) there
    ]

pub mem_from_rising : (f : Entry) (es : List Entry) → Mem f (in_rising_order es) → Mem f es
mem_from_rising f [] there = there
mem_from_rising f (e ∷ es) there = ⊎_elim (λ (s : e ≡ f). inl s) (λ (m : Mem f (in_rising_order es)). inr (mem_from_rising f es m)) (mem_with_rising e f (in_rising_order es) there)

pub mem_to_rising : (f : Entry) (es : List Entry) → Mem f es → Mem f (in_rising_order es)
mem_to_rising f [] there = there
mem_to_rising f (e ∷ es) there =
    ⊎_elim (λ (s : e ≡ f). subst (λ y. Mem y (with_rising e (in_rising_order es))) s (mem_new_with_rising e (in_rising_order es))) (λ (m : Mem f es). mem_old_with_rising e f (in_rising_order es) (mem_to_rising f es m)) there

above_trans : (p q : ℕ) (es : List Entry) → p < q → IsAbove q es → IsAbove p es
above_trans p q es less above = above_from_mem p es (λ e m. let h : q < place_of e = above_mem q es e above m in omega arith)

strict_with_rising : (e : Entry) (es : List Entry) → IsStrict es → ((f : Entry) → Mem f es → place_of f ≢ place_of e) → IsStrict (with_rising e es)
strict_with_rising e [] strict apart = (tt, tt)
strict_with_rising e (x ∷ xs) strict apart =
    let rest : IsStrict (with_rising e xs) = strict_with_rising e xs strict.1 (λ f m. apart f (inr m)) in
    let differs : place_of x ≢ place_of e = apart x (inl refl) in
    elim (leb (place_of e) (place_of x)) as (λ b. leb (place_of e) (place_of x) ≡ b → IsStrict (cond b (e ∷ (x ∷ xs)) (x ∷ with_rising e xs))) [
      | true ↦ λ h.
          let le : place_of e ≤ place_of x = leb-true (place_of e) (place_of x) h in
          let less : place_of e < place_of x = omega arith in
          ((less, above_trans (place_of e) (place_of x) xs less strict.0), strict)
      | false ↦ λ h.
          let less : place_of x < place_of e = leb-false (place_of e) (place_of x) h in
          (above_from_mem (place_of x) (with_rising e xs) (λ f m. ⊎_elim (λ (s : e ≡ f). subst (λ y. place_of x < place_of y) s less) (λ (m' : Mem f xs). above_mem (place_of x) xs f strict.0 m') (mem_with_rising e f xs m)), rest)
    ] refl

not_taken_mem : (es : List Entry) (p : ℕ) (f : Entry) → is_taken es p ≡ false → Mem f es → place_of f ≢ p
not_taken_mem [] p f free there = absurd there
not_taken_mem (x ∷ xs) p f free there =
    let parts = or_false (eqb (place_of x) p) (is_taken xs p) free in
    ⊎_elim (λ (s : x ≡ f). λ (same : place_of f ≡ p). false≢true (sym parts.0 ∙ eq-eqb (place_of x) p (ap place_of s ∙ same))) (λ (m : Mem f xs). not_taken_mem xs p f parts.1 m) there

pub strict_rising : (es : List Entry) → has_shared_place es ≡ false → IsStrict (in_rising_order es)
strict_rising [] apart = tt
strict_rising (e ∷ es) apart =
    let parts = or_false (is_taken es (place_of e)) (has_shared_place es) apart in
    strict_with_rising e (in_rising_order es) (strict_rising es parts.1) (λ f m. not_taken_mem es (place_of e) f parts.0 (mem_from_rising f es m))

-- ---- two strictly rising lists with the same entries are one

same_heads : (x y : Entry) (xs ys : List Entry) → IsStrict (x ∷ xs) → IsStrict (y ∷ ys) → Mem x (y ∷ ys) → Mem y (x ∷ xs) → x ≡ y
same_heads x y xs ys up up' in' in'' =
    ⊎_elim (λ (s : y ≡ x). sym s) (λ (m : Mem x ys). ⊎_elim (λ (s : x ≡ y). s) (λ (m' : Mem y xs).
    let a : place_of y < place_of x = above_mem (place_of y) ys x up'.0 m in
    let b : place_of x < place_of y = above_mem (place_of x) xs y up.0 m' in
    absurd (omega arith)) in'') in'

mem_tail : (x e : Entry) (xs ys : List Entry) → IsAbove (place_of x) xs → Mem e xs → Mem e (x ∷ ys) → Mem e ys
mem_tail x e xs ys above there m =
    ⊎_elim (λ (s : x ≡ e). let less : place_of x < place_of e = above_mem (place_of x) xs e above there in let same : place_of x ≡ place_of e = ap place_of s in absurd (omega arith)) (λ (m' : Mem e ys). m') m

pub same_entries : (xs ys : List Entry) → IsStrict xs → IsStrict ys → ((e : Entry) → Mem e xs → Mem e ys) → ((e : Entry) → Mem e ys → Mem e xs) → xs ≡ ys
same_entries [] [] up up' to from = refl
same_entries [] (y ∷ ys) up up' to from = absurd (from y (inl refl))
same_entries (x ∷ xs) [] up up' to from = absurd (to x (inl refl))
same_entries (x ∷ xs) (y ∷ ys) up up' to from =
    let head : x ≡ y = same_heads x y xs ys up up' (to x (inl refl)) (from y (inl refl)) in
    let to' : (e : Entry) → Mem e xs → Mem e ys = λ e m. mem_tail x e xs ys up.0 m (subst (λ z. Mem e (z ∷ ys)) (sym head) (to e (inr m))) in
    let from' : (e : Entry) → Mem e ys → Mem e xs = λ e m. mem_tail y e ys xs up'.0 m (subst (λ z. Mem e (z ∷ xs)) head (from e (inr m))) in
    ap (λ z. z ∷ xs) head ∙ ap (λ l. y ∷ l) (same_entries xs ys up.1 up'.1 to' from')

-- ---- a permutation has the same entries

mem_at : (es : List Entry) (k : ℕ) (d : Entry) → k < length es → Mem (get_or es k d) es
mem_at [] k d within = absurd (omega arith)
mem_at (x ∷ xs) zero d within = inl refl
mem_at (x ∷ xs) (suc k) d within = inr (mem_at xs k d (omega arith))

pub mem_from_contains : (es : List Entry) (e : Entry) → Contains es e → Mem e es
mem_from_contains es e c = subst (λ y. Mem y es) c.2 (mem_at es c.0 e c.1)

pub contains_from_mem : (es : List Entry) (e : Entry) → Mem e es → Contains es e
contains_from_mem [] e there = absurd there
contains_from_mem (x ∷ xs) e there =
    let rest = contains_from_mem xs e in
    ⊎_elim (λ (s : x ≡ e). (0, omega arith, s)) (λ (m : Mem e xs). let c = rest m in (suc c.0, omega (arith, c.1), c.2)) there

mem_permuted : (xs ys : List Entry) → IsPermutation xs ys → (e : Entry) → Mem e xs → Mem e ys
mem_permuted xs ys moved e there = mem_from_contains ys e (Contains-permutation xs ys e moved (contains_from_mem xs e there))

-- ---- different positions

all_from_free : (es : List Entry) (p : ℕ) → is_taken es p ≡ false → AllByRecursion (λ q. eqb p q ≡ false) (map place_of es)
all_from_free [] p free = tt
all_from_free (e ∷ es) p free =
    let parts = or_false (eqb (place_of e) p) (is_taken es p) free in
    (eqb_flips p (place_of e) ∙ parts.0, all_from_free es p parts.1)

free_from_all : (es : List Entry) (p : ℕ) → AllByRecursion (λ q. eqb p q ≡ false) (map place_of es) → is_taken es p ≡ false
free_from_all [] p all = refl
free_from_all (e ∷ es) p all = ap (λ b. b || is_taken es p) (eqb_flips (place_of e) p ∙ all.0) ∙ free_from_all es p all.1

distinct_from_apart : (es : List Entry) → has_shared_place es ≡ false → IsDistinct eqb (map place_of es)
unfolding IsDistinct
distinct_from_apart [] apart = tt
distinct_from_apart (e ∷ es) apart =
    let parts = or_false (is_taken es (place_of e)) (has_shared_place es) apart in
    (all_from_free es (place_of e) parts.0, distinct_from_apart es parts.1)

apart_from_distinct : (es : List Entry) → IsDistinct eqb (map place_of es) → has_shared_place es ≡ false
unfolding IsDistinct
apart_from_distinct [] distinct = refl
apart_from_distinct (e ∷ es) distinct =
    ap (λ b. b || has_shared_place es) (free_from_all es (place_of e) distinct.0) ∙ apart_from_distinct es distinct.1

-- entries in another order share positions just as well
pub shared_permuted : (xs ys : List Entry) → IsPermutation xs ys → has_shared_place xs ≡ has_shared_place ys
shared_permuted xs ys moved =
    same_when_false (has_shared_place xs) (has_shared_place ys)
    (λ h. apart_from_distinct ys (IsDistinct-IsPermutation eqb eqb_flips (map place_of xs) (map place_of ys) (IsPermutation-map place_of xs ys moved) (distinct_from_apart xs h)))
    (λ h. apart_from_distinct xs (IsDistinct-IsPermutation eqb eqb_flips (map place_of ys) (map place_of xs) (IsPermutation-map place_of ys xs (IsPermutation-sym xs ys moved)) (distinct_from_apart ys h)))

-- ---- what a sort gives

strict_from_sorted : (es : List Entry) → IsNonDecreasingBy place_of es → has_shared_place es ≡ false → IsStrict es
strict_from_sorted [] up apart = tt
strict_from_sorted (e ∷ es) up apart =
    let parts = or_false (is_taken es (place_of e)) (has_shared_place es) apart in (
      above_from_mem (place_of e) es (λ f m.
          let c = contains_from_mem es f m in
          let le : place_of e ≤ place_of f = subst (λ y. place_of e ≤ place_of y) c.2 (up 0 (suc c.0) f (omega arith) (omega (arith, c.1))) in
          let differs : place_of f ≢ place_of e = not_taken_mem es (place_of e) f parts.0 m in
          omega arith),
      strict_from_sorted es (λ i j d below within. up (suc i) (suc j) d (omega arith) (omega arith)) parts.1,
    )

-- entries in another order that rises, each at its own position, are the entries in rising order
pub sorted_is_rising : (xs ys : List Entry) → IsPermutation xs ys → IsNonDecreasingBy place_of ys → has_shared_place ys ≡ false → ys ≡ in_rising_order xs
sorted_is_rising xs ys moved up apart =
    same_entries ys (in_rising_order xs) (strict_from_sorted ys up apart) (strict_rising xs (shared_permuted xs ys moved ∙ apart))
    (λ e m. mem_to_rising e xs (mem_permuted ys xs (IsPermutation-sym xs ys moved) e m))
    (λ e m. mem_permuted xs ys moved e (mem_from_rising e xs m))

-- ---- neighbours

-- neighbours at one position are two entries at one position
pub shared_from_neighbours : (es : List Entry) (k : ℕ) (d : Entry) → suc k < length es → place_of (get_or es k d) ≡ place_of (get_or es (suc k) d) → has_shared_place es ≡ true
shared_from_neighbours [] k d within same = absurd (omega arith)
shared_from_neighbours (x ∷ []) k d within same = absurd (omega arith)
shared_from_neighbours (x ∷ (y ∷ ys)) zero d within same =
    ap (λ b. (b || is_taken ys (place_of x)) || has_shared_place (y ∷ ys)) (eq-eqb (place_of y) (place_of x) (sym same))
shared_from_neighbours (x ∷ (y ∷ ys)) (suc k) d within same =
    let rest : has_shared_place (y ∷ ys) ≡ true = shared_from_neighbours (y ∷ ys) k d (omega arith) same in
    or_true (is_taken (y ∷ ys) (place_of x)) (has_shared_place (y ∷ ys)) rest

above_eqb : (p q : ℕ) → p < q → eqb q p ≡ false
above_eqb p q less = grind (arith, nat_tests)

not_taken_above : (es : List Entry) (p : ℕ) → ((k : ℕ) (d : Entry) → k < length es → p < place_of (get_or es k d)) → is_taken es p ≡ false
not_taken_above [] p above = refl
not_taken_above (x ∷ xs) p above =
    let here : p < place_of x = above 0 x (omega arith) in
    ap (λ b. b || is_taken xs p) (above_eqb p (place_of x) here) ∙ not_taken_above xs p (λ k d within. above (suc k) d (omega arith))

-- if no neighbours have one position, no two entries have
pub apart_from_neighbours : (es : List Entry) → IsNonDecreasingBy place_of es → ((k : ℕ) (d : Entry) → suc k < length es → place_of (get_or es k d) ≢ place_of (get_or es (suc k) d)) → has_shared_place es ≡ false
apart_from_neighbours [] up differ = refl
apart_from_neighbours (x ∷ xs) up differ =
    let above : (k : ℕ) (d : Entry) → k < length xs → place_of x < place_of (get_or xs k d) = λ k d within.
    let first : place_of x ≤ place_of (get_or xs 0 d) = up 0 1 d (omega arith) (omega arith) in
    let apart : place_of x ≢ place_of (get_or xs 0 d) = differ 0 d (omega arith) in
    let later : place_of (get_or xs 0 d) ≤ place_of (get_or xs k d) = up 1 (suc k) d (omega arith) (omega arith) in
    omega arith
    in
    ap (λ b. b || has_shared_place xs) (not_taken_above xs (place_of x) above)
    ∙ apart_from_neighbours xs (λ i j d below within. up (suc i) (suc j) d (omega arith) (omega arith)) (λ k d within. differ (suc k) d (omega arith))
