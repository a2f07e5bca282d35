-- Texts that are compared block by block.
use Rattle.std.proofs.Common.{◌≡◌, ℕ, ◌+◌, ◌*◌, ◌≤◌, Bool, true, false, not, eqb, cond, List, [], ◌∷◌, ◌++◌, length, take, drop, refl, ap, sym, ◌∙◌, arith}
use Rattle.std.proofs.lemmas.Bool.{eqb-true}
use Rattle.std.proofs.lemmas.List.{take-append-drop, take-take}
use Rattle.std.proofs.Math.Seq.{take-add}
use lib.Lanes.{mask_l, zip2}

-- whether two bytes differ
abbrev pub differ : ℕ → ℕ → Bool
differ a b = not (eqb a b)

-- a lowest bit that is not set, and what is left of the mask
unset : (b : Bool) (n : ℕ) → cond (not b) 1 0 + 2 * n ≡ 0 → (b ≡ true) × (n ≡ 0)
unset true n none = (refl, omega (arith, none))
unset false n none = absurd (omega (arith, none))

-- if no byte differs from its partner, both are the same
pub same-none_differ : (a b : List ℕ) → length a ≡ length b → mask_l (zip2 differ a b) ≡ 0 → a ≡ b
same-none_differ [] [] long none = refl
same-none_differ [] (y ∷ b) long none = absurd (omega (arith, long))
same-none_differ (x ∷ a) [] long none = absurd (omega (arith, long))
same-none_differ (x ∷ a) (y ∷ b) long none =
    let none = unset (eqb x y) (mask_l (zip2 differ a b)) none in
    let front = eqb-true x y none.0 in
    let rest = same-none_differ a b (omega (arith, long)) none.1 in
    λ i. front i ∷ rest i

-- a block more is the same
pub same-more : (a b : List ℕ) (m n : ℕ) → take m a ≡ take m b → take n (drop m a) ≡ take n (drop m b) → take (m + n) a ≡ take (m + n) b
same-more a b m n front block = take-add m n a ∙ (λ i. front i ++ block i) ∙ sym (take-add m n b)

-- up to a block that begins within what is the same, and reaches the ends
pub same-whole : (a b : List ℕ) (m k : ℕ) → k ≤ m → take m a ≡ take m b → drop k a ≡ drop k b → a ≡ b
same-whole a b m k within front back =
    let start : take k a ≡ take k b = sym (take-take k m a within) ∙ ap (take k) front ∙ take-take k m b within in
    sym (take-append-drop k a) ∙ (λ i. start i ++ back i) ∙ take-append-drop k b
