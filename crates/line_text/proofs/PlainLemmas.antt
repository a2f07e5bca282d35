-- How many elements of a list pass, as found from block to block.
use Rattle.std.proofs.Common.{◌≡◌, ℕ, zero, suc, ◌+◌, ◌*◌, ◌/◌, ◌^◌, ◌≤◌, inl, inr, Bool, true, false, not, cond, eqb, List, [], ◌∷◌, length, map, take, drop, ap, sym, ◌∙◌, arith}
use Rattle.std.proofs.Math.Nat.{zero-div, div-one, pow-suc, mul_comm, div-div-eq-div-mul}
use Rattle.std.proofs.lemmas.Bool.{cases_Bool}
use Rattle.std.proofs.lemmas.List.{drop-map}
use Rattle.std.proofs.lemmas.Simd.{first_set_mask_l}
use Rattle.std.specs.List.{prefix_len}
use lib.Count.{count_trailing_zeros}
use lib.Lanes.{mask_l}

halved : (b : Bool) (n : ℕ) → (cond b 1 0 + 2 * n) / 2 ≡ n
halved true n = omega arith
halved false n = omega arith

-- a mask that is shifted is that of what is left
mask-shifted : (ms : List Bool) (k : ℕ) → mask_l ms / 2 ^ k ≡ mask_l (drop k ms)
mask-shifted [] zero = zero-div (2 ^ 0)
mask-shifted [] (suc k) = zero-div (2 ^ suc k)
mask-shifted (m ∷ ms) zero = div-one (mask_l (m ∷ ms))
mask-shifted (m ∷ ms) (suc k) =
    ap (λ (n : ℕ). mask_l (m ∷ ms) / n) (pow-suc 2 k ∙ mul_comm (2 ^ k) 2) ∙ sym (div-div-eq-div-mul (mask_l (m ∷ ms)) 2 (2 ^ k))
    ∙ ap (λ (n : ℕ). n / 2 ^ k) (halved m (mask_l ms)) ∙ mask-shifted ms k

-- of what is left, the lowest bit of its shifted mask is that of the first that passes
pub first_in_shifted : (p : ℕ → Bool) (xs : List ℕ) (k n : ℕ) → length (drop k xs) ≡ n → n ≤ 64
    → cond (eqb (mask_l (map p xs) / 2 ^ k) 0) n (count_trailing_zeros 64 (mask_l (map p xs) / 2 ^ k)) ≡ prefix_len (λ x. not (p x)) (drop k xs)
first_in_shifted p xs k n long few =
    ap (λ (m : ℕ). cond (eqb m 0) n (count_trailing_zeros 64 m)) (mask-shifted (map p xs) k ∙ ap mask_l (drop-map p k xs)) ∙ first_set_mask_l p (drop k xs) n long few

-- past those that pass in a front
pub prefix_len-past : (p : ℕ → Bool) (n : ℕ) (xs : List ℕ) → prefix_len p xs ≡ prefix_len p (take n xs) + prefix_len p (drop (prefix_len p (take n xs)) xs)
prefix_len-past p zero xs = omega arith
prefix_len-past p (suc n) [] = omega arith
prefix_len-past p (suc n) (x ∷ xs) =
    elim (cases_Bool (p x)) [
      | inl passes ↦
          let k = prefix_len p (take n xs) in
          let count : prefix_len p (x ∷ take n xs) ≡ suc k = ap (λ (t : Bool). cond t (1 + k) 0) passes ∙ omega arith in
          let all : prefix_len p (x ∷ xs) ≡ 1 + prefix_len p xs = ap (λ (t : Bool). cond t (1 + prefix_len p xs) 0) passes in
          rw count (all ∙ omega (arith, prefix_len-past p n xs))
      | inr other ↦
          let none : prefix_len p (x ∷ take n xs) ≡ 0 = ap (λ (t : Bool). cond t (1 + prefix_len p (take n xs)) 0) other in
          rw none (omega arith)
    ]
