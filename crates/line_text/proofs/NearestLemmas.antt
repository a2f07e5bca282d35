-- Rounding: the computed whole number is the nearest one and the only one, and rounding keeps the order of fractions.
use Rattle.std.proofs.Common.{◌≡◌, ℕ, ◌+◌, ◌*◌, ◌/◌, ◌%◌, ◌<◌, ◌≤◌, inl, inr, Bool, true, cond, ap, sym, subst, arith}
use Rattle.std.specs.Prelude.{nat_lt, nat_le}
use Rattle.std.proofs.Math.Nat.{mod-add-div, mod-lt, mul-le-mul_right, le-mul_of_pos_right}
use Rattle.std.proofs.lemmas.Nat.{same_from_place}
use Rattle.std.proofs.lemmas.Bool.{cases_Bool, ltb-true, ltb-false, leb-true, leb-false, eqb-true, eqb-false, eq-eqb}
use Rattle.line_text.specs.Nearest.{IsNearest, is_even, nearest, rounded}

-- a factor above 0 cancels
pub cancel : (a b k : ℕ) → 0 < k → a * k ≡ b * k → a ≡ b
cancel a b k some is =
    let same : a * k + 0 ≡ b * k + 0 = omega (arith, is) in
    (same_from_place a 0 b 0 k some some same).0

-- ---- the computed number is the nearest

quotient-is : (n d q r : ℕ) → r + q * d ≡ n → 2 * r < d → IsNearest n d q
quotient-is n d q r whole small = record {
  not_above = omega arith;
  not_below = omega arith;
  half_above = λ half. absurd (omega (arith, half));
  half_below = λ half. absurd (omega (arith, half));
}

next-is : (n d q r : ℕ) → r + q * d ≡ n → r < d → d < 2 * r → IsNearest n d (q + 1)
next-is n d q r whole within large = record {
  not_above = omega arith;
  not_below = omega arith;
  half_above = λ half. absurd (omega (arith, half));
  half_below = λ half. absurd (omega (arith, half));
}

even_of : (q : ℕ) → q % 2 ≡ 0 → is_even q ≡ true
even_of q is = eq-eqb (q % 2) 0 is

tie_even-is : (n d q r : ℕ) → r + q * d ≡ n → 2 * r ≡ d → 0 < d → q % 2 ≡ 0 → IsNearest n d q
tie_even-is n d q r whole half some even = record {
  not_above = omega arith;
  not_below = omega arith;
  half_above = λ _. even_of q even;
  half_below = λ _. even_of q even;
}

tie_odd-is : (n d q r : ℕ) → r + q * d ≡ n → 2 * r ≡ d → 0 < d → q % 2 ≡ 1 → IsNearest n d (q + 1)
tie_odd-is n d q r whole half some odd =
    let even : (q + 1) % 2 ≡ 0 = omega arith in
    record {
      not_above = omega arith;
      not_below = omega arith;
      half_above = λ _. even_of (q + 1) even;
      half_below = λ _. even_of (q + 1) even;
    }

tie-is : (n d q r : ℕ) → r + q * d ≡ n → 2 * r ≡ d → 0 < d → IsNearest n d (q + q % 2)
tie-is n d q r whole half some =
    elim (cases_Bool (is_even q)) [
      | inl even ↦
          let none = eqb-true (q % 2) 0 even in
          let same : q ≡ q + q % 2 = omega (arith, none) in
          subst (IsNearest n d) same (tie_even-is n d q r whole half some none)
      | inr odd ↦
          let not_none = eqb-false (q % 2) 0 odd in
          let one : q % 2 ≡ 1 = omega (arith, not_none) in
          let same : q + 1 ≡ q + q % 2 = omega (arith, one) in
          subst (IsNearest n d) same (tie_odd-is n d q r whole half some one)
    ]

rounded-is : (n d q r : ℕ) → r + q * d ≡ n → r < d → IsNearest n d (rounded q (2 * r) d)
rounded-is n d q r whole within =
    elim (cases_Bool (nat_lt (2 * r) d)) [
      | inl small ↦
          let chosen = ap (λ (b : Bool). cond b q (cond (nat_lt d (2 * r)) (q + 1) (q + q % 2))) small in
          subst (IsNearest n d) (sym chosen) (quotient-is n d q r whole (ltb-true (2 * r) d small))
      | inr not_small ↦
          let chosen = ap (λ (b : Bool). cond b q (cond (nat_lt d (2 * r)) (q + 1) (q + q % 2))) not_small in
          subst (IsNearest n d) (sym chosen) (at_least_half (ltb-false (2 * r) d not_small))
    ]
  where
    at_least_half : d ≤ 2 * r → IsNearest n d (cond (nat_lt d (2 * r)) (q + 1) (q + q % 2))
    at_least_half half =
        elim (cases_Bool (nat_lt d (2 * r))) [
          | inl large ↦
              subst (IsNearest n d) (sym (ap (λ (b : Bool). cond b (q + 1) (q + q % 2)) large)) (next-is n d q r whole within (ltb-true d (2 * r) large))
          | inr not_large ↦
              let tie : 2 * r ≡ d = omega (arith, ltb-false d (2 * r) not_large) in
              let some : 0 < d = omega arith in
              subst (IsNearest n d) (sym (ap (λ (b : Bool). cond b (q + 1) (q + q % 2)) not_large)) (tie-is n d q r whole tie some)
        ]

pub nearest-is : (n d : ℕ) → 0 < d → IsNearest n d (nearest n d)
nearest-is n d some =
    let whole : n % d + n / d * d ≡ n = omega (arith, mod-add-div n d) in
    rounded-is n d (n / d) (n % d) whole (mod-lt n some)

-- ---- rounding keeps the order, so there is only one nearest number

pub nearest-order : (n d m e u v : ℕ) → 0 < d → 0 < e → n * e ≤ m * d → IsNearest n d u → IsNearest m e v → u ≤ v
nearest-order n d m e u v some_d some_e order is_u is_v =
    elim (cases_Bool (nat_le u v)) [
      | inl at_most ↦ leb-true u v at_most
      | inr above ↦ absurd (not_above (leb-false u v above))
    ]
  where
    not_above : v < u → ⊥
    not_above above =
        let first : (2 * u * d) * e ≤ (2 * n + d) * e = mul-le-mul_right e is_u.not_above in
        let second : (2 * m) * d ≤ (2 * v * e + e) * d = mul-le-mul_right d is_v.not_below in
        let grown : (v + 1) * (d * e) ≤ u * (d * e) = mul-le-mul_right (d * e) (omega arith) in
        let part : 0 < d * e = omega (arith, le-mul_of_pos_right d some_e) in
        let next : u ≡ v + 1 = cancel u (v + 1) (d * e) part (omega (arith, first, second, grown)) in
        let half_u : 2 * u * d ≡ 2 * n + d = cancel (2 * u * d) (2 * n + d) e some_e (omega (arith, first, second, grown)) in
        let half_v : 2 * m ≡ 2 * v * e + e = cancel (2 * m) (2 * v * e + e) d some_d (omega (arith, first, second, grown)) in
        let even_u = eqb-true (u % 2) 0 (is_u.half_above half_u) in
        let even_v = eqb-true (v % 2) 0 (is_v.half_below half_v) in
        omega (arith, next, even_u, even_v)

pub nearest-only : (n d u v : ℕ) → 0 < d → IsNearest n d u → IsNearest n d v → u ≡ v
nearest-only n d u v some is_u is_v =
    let up : u ≤ v = nearest-order n d n d u v some some (omega arith) is_u is_v in
    let down : v ≤ u = nearest-order n d n d v u some some (omega arith) is_v is_u in
    omega (arith, up, down)

pub nearest-from : (n d u : ℕ) → 0 < d → IsNearest n d u → nearest n d ≡ u
nearest-from n d u some is = nearest-only n d (nearest n d) u some (nearest-is n d some) is

-- ---- fractions that are easily rounded

-- a whole number
pub nearest-whole : (u d : ℕ) → 0 < d → nearest (u * d) d ≡ u
nearest-whole u d some = nearest-from (u * d) d u some (quotient-is (u * d) d u 0 (omega arith) (omega arith))

-- less than a half
pub nearest-small : (n d : ℕ) → 2 * n < d → nearest n d ≡ 0
nearest-small n d small = nearest-from n d 0 (omega arith) (quotient-is n d 0 n (omega arith) small)

-- a common factor cancels
pub nearest-common : (n d k : ℕ) → 0 < d → 0 < k → nearest (n * k) (d * k) ≡ nearest n d
nearest-common n d k some_d some_k = nearest-from (n * k) (d * k) u positive is_same
  where
    u : ℕ
    u = nearest n d

    is : IsNearest n d (nearest n d)
    is = nearest-is n d some_d

    positive : 0 < d * k
    positive = omega (arith, le-mul_of_pos_right d some_k)

    is_same : IsNearest (n * k) (d * k) (nearest n d)
    is_same =
        let above : (2 * nearest n d * d) * k ≤ (2 * n + d) * k = mul-le-mul_right k is.not_above in
        let below : (2 * n) * k ≤ (2 * nearest n d * d + d) * k = mul-le-mul_right k is.not_below in
        record {
          not_above = omega (arith, above);
          not_below = omega (arith, below);
          half_above = λ half. is.half_above (cancel (2 * nearest n d * d) (2 * n + d) k some_k (omega (arith, half)));
          half_below = λ half. is.half_below (cancel (2 * n) (2 * nearest n d * d + d) k some_k (omega (arith, half)));
        }
