-- The least free position: at most as many positions in a row are taken as there are entries.
use Rattle.std.proofs.Common.{◌≡◌, ℕ, zero, suc, ◌+◌, ◌-◌, ◌<◌, ◌≤◌, Bool, true, false, cond, eqb, ltb, leb, ◌&&◌, ◌||◌, List, [], ◌∷◌, length, refl, sym, ap, ◌∙◌, subst, ⊎_elim, arith}
use Rattle.std.proofs.lemmas.Bool.Decides.{nat_tests}
use Rattle.std.proofs.lemmas.Bool.{cases_lt}
use Rattle.hash_ring.specs.Entry.{Entry, place_of, is_taken}
use Rattle.hash_ring.specs.Placing.{first_free}

-- how many entries are at a position of this kind
abbrev counted : (ℕ → Bool) → List Entry → ℕ
counted test [] = 0
counted test (e ∷ es) = cond (test (place_of e)) (suc (counted test es)) (counted test es)

-- whether a position is one of p, .. before q
abbrev within : ℕ → ℕ → ℕ → Bool
within p q x = leb p x && ltb x q

counted-bound : (test : ℕ → Bool) (es : List Entry) → counted test es ≤ length es
counted-bound test [] = omega arith
counted-bound test (e ∷ es) =
    let rest : counted test es ≤ length es = counted-bound test es in
    elim (test (place_of e)) as (λ b. cond b (suc (counted test es)) (counted test es) ≤ suc (length es)) [ true ↦ omega arith | false ↦ omega arith ]

one_more : (p q x m n k : ℕ) → p ≤ q → m ≡ n + k → cond (within p (q + 1) x) (suc m) m ≡ cond (within p q x) (suc n) n + cond (eqb x q) (suc k) k
one_more p q x m n k le e = grind (arith, nat_tests)

counted_more : (p q : ℕ) (es : List Entry) → p ≤ q → counted (within p (q + 1)) es ≡ counted (within p q) es + counted (λ x. eqb x q) es
counted_more p q [] le = refl
counted_more p q (e ∷ es) le = one_more p q (place_of e) _ _ _ le (counted_more p q es le)

counted-taken : (es : List Entry) (q : ℕ) → is_taken es q ≡ true → 1 ≤ counted (λ x. eqb x q) es
counted-taken [] q taken = absurd (cc)
counted-taken (e ∷ es) q taken =
    let rest = counted-taken es q in
    elim (eqb (place_of e) q) as (λ b. (b || is_taken es q) ≡ true → 1 ≤ cond b (suc (counted (λ x. eqb x q) es)) (counted (λ x. eqb x q) es)) [ true ↦ λ _. omega arith | false ↦ rest ] taken

counted-run : (es : List Entry) (p n : ℕ) → ((k : ℕ) → p ≤ k → k < p + n → is_taken es k ≡ true) → n ≤ counted (within p (p + n)) es
counted-run es p zero taken = omega arith
counted-run es p (suc n) taken =
    let before : n ≤ counted (within p (p + n)) es = counted-run es p n (λ k low high. taken k low (omega arith)) in
    let here : 1 ≤ counted (λ x. eqb x (p + n)) es = counted-taken es (p + n) (taken (p + n) (omega arith) (omega arith)) in
    let more : counted (within p (p + n + 1)) es ≡ counted (within p (p + n)) es + counted (λ x. eqb x (p + n)) es = counted_more p (p + n) es (omega arith) in
    let same : p + suc n ≡ p + n + 1 = omega arith in
    subst (λ q. suc n ≤ counted (within p q) es) (sym same) (omega arith)

-- if a number of positions in a row is taken, there are at least this number of entries
pub run_is_short : (es : List Entry) (p q : ℕ) → p ≤ q → ((k : ℕ) → p ≤ k → k < q → is_taken es k ≡ true) → q ≤ p + length es
run_is_short es p q le taken =
    let same : p + (q - p) ≡ q = omega arith in
    let many : q - p ≤ counted (within p (p + (q - p))) es = counted-run es p (q - p) (λ k low high. taken k low (omega arith)) in
    omega (arith, counted-bound (within p (p + (q - p))) es)

-- a position that is free is the first free one; after a position that is taken, the search goes on
pub free_further : (es : List Entry) (p n m : ℕ) → is_taken es p ≡ true → n ≡ suc m → first_free es p n ≡ first_free es (p + 1) m
free_further es p n m taken e = ap (first_free es p) e ∙ ap (λ b. cond b (first_free es (p + 1) m) p) taken

-- all positions from p up to, and without, q are taken
abbrev pub IsRun : List Entry → ℕ → ℕ → Type 0
IsRun es p q = (k : ℕ) → p ≤ k → k < q → is_taken es k ≡ true

at_end : (q k : ℕ) → q ≤ k → k < q + 1 → q ≡ k
at_end q k a b = omega arith

pub run_more : (es : List Entry) (p q : ℕ) → IsRun es p q → is_taken es q ≡ true → IsRun es p (q + 1)
run_more es p q run taken = λ k low high. ⊎_elim (λ below. run k low below) (λ above. subst (λ n. is_taken es n ≡ true) (at_end q k above high) taken) (cases_lt k q)
