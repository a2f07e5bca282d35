-- Values and whole parts, as relations and as they are computed.
use Rattle.std.proofs.Common.{◌≡◌, ℕ, suc, zero, ◌+◌, ◌-◌, ◌*◌, ◌^◌, ◌<◌, ◌≤◌, ℤ, pos, negsuc, neg_ℤ, ◌*ℤ◌, ◌-ℤ◌, ◌≤ℤ◌, ◌<ℤ◌, inl, inr, Bool, true, false, cond, ltb, Some, None, refl, ap, sym, ◌∙◌, subst, arith, lit<, T}
use Rattle.std.proofs.Math.Nat.{one-le-pow, mod-add-div, mod-lt, div-eq_of_lt-le, le-mul_of_pos_right, pow-le-pow_right, mul-le-mul_left}
use Rattle.std.proofs.lemmas.Nat.{pow-add}
use Rattle.std.specs.Prelude.{nat_abs, nat_le, int_lt}
use Rattle.std.specs.Int.Signed.{le_z_yes}
use Rattle.std.proofs.lemmas.Bool.{cases_Bool, leb-true, leb-false, le-leb, le-ltb, ltb-true, ltb-false, lt-ltb}
use Rattle.std.proofs.lemmas.Float.{T_from_true}
use Rattle.std.proofs.lemmas.Option.{cond_some}
use lib.IntN.{sub_ℕ}
use Rattle.line_text.specs.Nearest.{IsNearest, is_even, nearest}
use Rattle.line_text.specs.Number.{Decimal, with_sign}
use Rattle.line_text.specs.Value.{IsValueOf, value_of, units_in_range, magnitude, scale, distance, places_left, places_right, is_below_zero, units_of_one, most_units}
use Rattle.line_text.specs.Time.{IsWholePart, whole_part}
use Rattle.line_text.specs.Laws.{IsAtMost}
use Rattle.line_text.proofs.NearestLemmas.{nearest-is, nearest-from, nearest-order, nearest-whole, nearest-common}

pub power : (k : ℕ) → 0 < 10 ^ k
power k = one-le-pow k 10 (lit< tt)

-- ---- whole parts

pub IsWholePart-from : (d : Decimal) (t : ℕ) → whole_part d ≡ t → IsWholePart d t
IsWholePart-from d t is =
    let whole = mod-add-div (magnitude d) (scale d) in
    let part = mod-lt (magnitude d) (power (places_left d.exponent)) in
    subst (IsWholePart d) is (record { reached = omega (arith, whole); greatest = omega (arith, whole, part) })

pub whole_part-from : (d : Decimal) (t : ℕ) → IsWholePart d t → whole_part d ≡ t
whole_part-from d t is = div-eq_of_lt-le (scale d) is.reached is.greatest

-- ---- products with a sign

pub neg-mul : (q s : ℕ) → neg_ℤ (pos q) *ℤ pos s ≡ neg_ℤ (pos (q * s))
neg-mul zero s =
    let nothing : 0 * s ≡ 0 = omega arith in
    ap pos nothing ∙ sym (ap (λ (n : ℕ). neg_ℤ (pos n)) nothing)
neg-mul (suc q) s = refl

pub with_sign-mul : (minus : Bool) (q s : ℕ) → with_sign minus q *ℤ pos s ≡ with_sign minus (q * s)
with_sign-mul true q s = neg-mul q s
with_sign-mul false q s = refl

-- ---- how far two numbers are apart

record AreApart (a b d : ℕ) : Type 0 where
  over : b ≤ a → d + b ≡ a
  under : a ≤ b → d + a ≡ b

less : (a b : ℕ) → AreApart a b (nat_abs (sub_ℕ a b))
less a b =
    elim (cases_Bool (ltb a b)) [
      | inl below ↦
          let small = ltb-true a b below in
          subst (λ (z : ℤ). AreApart a b (nat_abs z)) (sym (ap (λ (t : Bool). cond t (negsuc (b - suc a)) (pos (a - b))) below)) (record { over = λ h. absurd (omega (arith, h, small)); under = λ _. omega (arith, small) })
      | inr above ↦
          let large = ltb-false a b above in
          subst (λ (z : ℤ). AreApart a b (nat_abs z)) (sym (ap (λ (t : Bool). cond t (negsuc (b - suc a)) (pos (a - b))) above)) (record { over = λ _. omega (arith, large); under = λ h. omega (arith, h, large) })
    ]

apart : (a b : ℕ) → AreApart a b (nat_abs (pos a -ℤ pos b))
apart a zero = record { over = λ _. omega arith; under = λ h. omega (arith, h) }
apart a (suc b) = less a (suc b)

apart-below : (a b : ℕ) → AreApart a b (nat_abs (neg_ℤ (pos a) -ℤ neg_ℤ (pos b)))
apart-below zero zero = record { over = λ _. omega arith; under = λ _. omega arith }
apart-below zero (suc b) = record { over = λ h. absurd (omega (arith, h)); under = λ _. omega arith }
apart-below (suc a) zero =
    let turned = less zero (suc a) in
    record { over = turned.under; under = turned.over }
apart-below (suc a) (suc b) =
    let turned = less (suc b) (suc a) in
    record { over = turned.under; under = turned.over }

-- of numbers with the same sign
same_sign : (minus : Bool) (q a s k : ℕ) → AreApart (q * s) (a * k) (nat_abs (with_sign minus q *ℤ pos s -ℤ with_sign minus a *ℤ pos k))
same_sign false q a s k = apart (q * s) (a * k)
same_sign true q a s k =
    let signs : neg_ℤ (pos q) *ℤ pos s -ℤ neg_ℤ (pos a) *ℤ pos k ≡ neg_ℤ (pos (q * s)) -ℤ neg_ℤ (pos (a * k)) =
    ap (λ (z : ℤ). z -ℤ neg_ℤ (pos a) *ℤ pos k) (neg-mul q s) ∙ ap (λ (z : ℤ). neg_ℤ (pos (q * s)) -ℤ z) (neg-mul a k)
    in
    subst (λ (z : ℤ). AreApart (q * s) (a * k) (nat_abs z)) (sym signs) (apart-below (q * s) (a * k))

from_zero : (y : ℕ) → nat_abs (sub_ℕ zero (suc y)) ≡ suc y
from_zero y =
    let gap = (less zero (suc y)).under (omega arith) in
    omega (arith, gap)

-- of numbers on both sides of 0
below-above : (x y : ℕ) → nat_abs (neg_ℤ (pos x) -ℤ pos y) ≡ x + y
below-above zero zero = refl
below-above zero (suc y) =
    let one : suc y ≡ 0 + suc y = omega arith in
    from_zero y ∙ one
below-above (suc x) zero =
    let one : suc x ≡ suc x + 0 = omega arith in
    from_zero x ∙ one
below-above (suc x) (suc y) =
    let one : suc (suc (x + y)) ≡ suc x + suc y = omega arith in
    one

above-below : (x y : ℕ) → nat_abs (pos x -ℤ neg_ℤ (pos y)) ≡ x + y
above-below x zero =
    let one : x + 0 ≡ x + 0 = refl in
    one
above-below x (suc y) = refl

-- ---- a value is near its number

-- q units of the scale are at most half of it away; if they are exactly half away, q is even
record IsNear (s q distance : ℕ) : Type 0 where
  near : 2 * distance ≤ s
  even : 2 * distance ≡ s → is_even q ≡ true

near-from : (n s q distance : ℕ) → IsNearest n s q → AreApart (q * s) n distance → IsNear s q distance
near-from n s q distance is away =
    elim (cases_Bool (nat_le n (q * s))) [
      | inl above ↦
          let is_distance = away.over (leb-true n (q * s) above) in
          record {
            near = omega (arith, is_distance, is.not_above);
            even = λ half. is.half_above (omega (arith, is_distance, half));
          }
      | inr below ↦
          let is_distance = away.under (omega (arith, leb-false n (q * s) below)) in
          record {
            near = omega (arith, is_distance, is.not_below);
            even = λ half. is.half_below (omega (arith, is_distance, half));
          }
    ]

nearest-near : (n s q distance : ℕ) → 0 < s → IsNear s q distance → AreApart (q * s) n distance → IsNearest n s q
nearest-near n s q distance some is away =
    elim (cases_Bool (nat_le n (q * s))) [
      | inl above ↦
          let is_distance = away.over (leb-true n (q * s) above) in
          record {
            not_above = omega (arith, is_distance, is.near);
            not_below = omega (arith, is_distance, is.near);
            half_above = λ half. is.even (omega (arith, is_distance, half));
            half_below = λ half. absurd (omega (arith, is_distance, half, some));
          }
      | inr below ↦
          let is_distance = away.under (omega (arith, leb-false n (q * s) below)) in
          record {
            not_above = omega (arith, is_distance, is.near);
            not_below = omega (arith, is_distance, is.near);
            half_above = λ half. absurd (omega (arith, is_distance, half, some));
            half_below = λ half. is.even (omega (arith, is_distance, half));
          }
    ]

-- how far a magnitude with the sign of a number is from that number
parts-apart : (m : ℤ) (r s q : ℕ) → AreApart (q * s) (nat_abs m * (r * units_of_one)) (nat_abs (with_sign (int_lt m (pos 0)) q *ℤ pos s -ℤ m *ℤ pos (r * units_of_one)))
parts-apart (pos a) r s q =
    subst (λ (minus : Bool). AreApart (q * s) (a * (r * units_of_one)) (nat_abs (with_sign minus q *ℤ pos s -ℤ pos a *ℤ pos (r * units_of_one)))) (sym (le-ltb a 0 (omega arith)))
    (same_sign false q a s (r * units_of_one))
parts-apart (negsuc a) r s q = same_sign true q (suc a) s (r * units_of_one)

abs-with_sign : (minus : Bool) (q : ℕ) → nat_abs (with_sign minus q) ≡ q
abs-with_sign false q = refl
abs-with_sign true zero = refl
abs-with_sign true (suc q) = refl

-- ---- from a value computed to the relation

-- the units of a number, before they are held to the range
abbrev units_of : Decimal → ℕ
units_of d = nearest (magnitude d * units_of_one) (scale d)

units-near : (d : Decimal) → IsNearest (magnitude d * units_of_one) (scale d) (units_of d)
units-near d = nearest-is (magnitude d * units_of_one) (scale d) (power (places_left d.exponent))

units-apart : (d : Decimal) → AreApart (units_of d * scale d) (magnitude d * units_of_one) (distance d (with_sign (is_below_zero d) (units_of d)))
units-apart d =
    let r = 10 ^ places_right d.exponent in
    let same : nat_abs d.mantissa * (r * units_of_one) ≡ magnitude d * units_of_one = omega arith in
    subst (λ (n : ℕ). AreApart (units_of d * scale d) n (distance d (with_sign (is_below_zero d) (units_of d)))) same
    (parts-apart d.mantissa r (scale d) (units_of d))

pub IsValueOf-from : (d : Decimal) (u : ℤ) → value_of d ≡ Some u → IsValueOf d u
IsValueOf-from d u is =
    let minus = is_below_zero d in
    let q = units_of d in
    let ranged = cond_some (nat_le q most_units) (with_sign minus q) u is in
    let near = near-from (magnitude d * units_of_one) (scale d) q (distance d (with_sign minus q)) (units-near d) (units-apart d) in
    let same = abs-with_sign minus q in
    let found : IsValueOf d (with_sign minus q) = record {
      near = near.near;
      even = λ half. ap is_even same ∙ near.even half;
      within = subst (λ (n : ℕ). n ≤ most_units) (sym same) (leb-true q most_units ranged.0);
    } in
    subst (IsValueOf d) ranged.1 found

-- ---- from the relation to the value computed

-- what the relation says of magnitude and sign
record Shows (m u : ℤ) (r s : ℕ) : Type 0 where
  units : nearest (nat_abs m * r * units_of_one) s ≡ nat_abs u
  value : with_sign (int_lt m (pos 0)) (nat_abs u) ≡ u

abbrev away_from : ℤ → ℤ → ℕ → ℕ → ℕ
away_from m u r s = nat_abs (u *ℤ pos s -ℤ m *ℤ pos (r * units_of_one))

shown-units : (n r s q distance : ℕ) → 0 < s → IsNear s q distance → AreApart (q * s) (n * (r * units_of_one)) distance → nearest (n * r * units_of_one) s ≡ q
shown-units n r s q distance some is away =
    let same : n * (r * units_of_one) ≡ n * r * units_of_one = omega arith in
    let away' = subst (λ (x : ℕ). AreApart (q * s) x distance) same away in
    nearest-from (n * r * units_of_one) s q some (nearest-near (n * r * units_of_one) s q distance some is away')

shows : (m u : ℤ) (r s : ℕ) → 0 < s → IsNear s (nat_abs u) (away_from m u r s) → Shows m u r s
shows (pos a) (pos v) r s some is =
    record {
      units = shown-units a r s v (away_from (pos a) (pos v) r s) some is (same_sign false v a s (r * units_of_one));
      value = ap (λ (minus : Bool). with_sign minus v) (le-ltb a 0 (omega arith));
    }
shows (pos a) (negsuc v) r s some is =
    let far : away_from (pos a) (negsuc v) r s ≡ suc v * s + a * (r * units_of_one) = below-above (suc v * s) (a * (r * units_of_one)) in
    absurd (omega (arith, far, is.near, some))
shows (negsuc a) (pos zero) r s some is =
    let far : away_from (negsuc a) (pos zero) r s ≡ 0 * s + suc a * (r * units_of_one) = above-below (0 * s) (suc a * (r * units_of_one)) in
    let small : 2 * (suc a * r * units_of_one) ≤ s = omega (arith, far, is.near) in
    let nearest_is : IsNearest (suc a * r * units_of_one) s 0 = record {
      not_above = omega arith;
      not_below = omega (arith, small);
      half_above = λ half. refl;
      half_below = λ half. refl;
    } in
    record { units = nearest-from (suc a * r * units_of_one) s 0 some nearest_is; value = refl }
shows (negsuc a) (pos (suc v)) r s some is =
    let far : away_from (negsuc a) (pos (suc v)) r s ≡ suc v * s + suc a * (r * units_of_one) = above-below (suc v * s) (suc a * (r * units_of_one)) in
    absurd (omega (arith, far, is.near, some))
shows (negsuc a) (negsuc v) r s some is =
    record {
      units = shown-units (suc a) r s (suc v) (away_from (negsuc a) (negsuc v) r s) some is (same_sign true (suc v) (suc a) s (r * units_of_one));
      value = refl;
    }

pub value_of-from : (d : Decimal) (u : ℤ) → IsValueOf d u → value_of d ≡ Some u
value_of-from d u is =
    let shown = shows d.mantissa u (10 ^ places_right d.exponent) (scale d) (power (places_left d.exponent)) (record { near = is.near; even = is.even }) in
    ap (units_in_range (is_below_zero d)) shown.units
    ∙ ap (λ (b : Bool). cond b (Some (with_sign (is_below_zero d) (nat_abs u))) None) (le-leb (nat_abs u) most_units is.within)
    ∙ ap (λ (z : ℤ). Some z) shown.value

-- ---- numbers that are values

-- 10^10 in two powers
tens : (k : ℕ) → k ≤ 10 → 10 ^ (10 - k) * 10 ^ k ≡ units_of_one
tens k few =
    let all : 10 - k + k ≡ 10 = omega arith in
    sym (pow-add 10 (10 - k) k) ∙ ap (λ (n : ℕ). 10 ^ n) all

units-exact : (d : Decimal) → places_left d.exponent ≤ 10 → units_of d * scale d ≡ magnitude d * units_of_one
units-exact d few =
    let k = places_left d.exponent in
    let u = magnitude d * 10 ^ (10 - k) in
    let whole : magnitude d * units_of_one ≡ u * scale d = omega (arith, ap (λ (n : ℕ). magnitude d * n) (tens k few)) in
    let found : units_of d ≡ u = ap (λ (n : ℕ). nearest n (scale d)) whole ∙ nearest-whole u (scale d) (power k) in
    ap (λ (n : ℕ). n * scale d) found ∙ sym whole

pub value-exact_law : (d : Decimal) (u : ℤ) → places_left d.exponent ≤ 10 → value_of d ≡ Some u → distance d u ≡ 0
value-exact_law d u few is =
    let minus = is_below_zero d in
    let q = units_of d in
    let ranged = cond_some (nat_le q most_units) (with_sign minus q) u is in
    let exact = units-exact d few in
    let gap = (units-apart d).over (omega (arith, exact)) in
    let nothing : distance d (with_sign minus q) ≡ 0 = omega (arith, gap, exact) in
    subst (λ (v : ℤ). distance d v ≡ 0) ranged.1 nothing

-- an exponent that places after the point give
exponent_of : (k : ℕ) → pos 0 -ℤ pos (suc k) ≡ negsuc k
exponent_of k =
    let one : suc k - suc zero ≡ k = omega arith in
    ap (λ (t : Bool). cond t (negsuc (suc k - suc zero)) (pos (zero - suc k))) (lt-ltb zero (suc k) (omega arith)) ∙ ap negsuc one

pub left_of : (k : ℕ) → places_left (pos 0 -ℤ pos k) ≡ k
left_of zero = refl
left_of (suc k) = ap places_left (exponent_of k)

pub right_of : (k : ℕ) → places_right (pos 0 -ℤ pos k) ≡ 0
right_of zero = refl
right_of (suc k) = ap places_right (exponent_of k)

abbrev gap_at : Bool → ℕ → ℕ → ℕ → ℕ → ℕ
gap_at minus a units left right =
    nat_abs (with_sign minus units *ℤ pos (10 ^ left) -ℤ with_sign minus a *ℤ pos (10 ^ right * units_of_one))

-- a number of whole units, with this number of places after its point
pub value-exact : (minus : Bool) (a units k : ℕ) → units * 10 ^ k ≡ a * units_of_one → units ≤ most_units → value_of (record { mantissa = with_sign minus a; exponent = pos 0 -ℤ pos k }) ≡ Some (with_sign minus units)
value-exact minus a units k exact within = value_of-from number (with_sign minus units) (record {
  near = omega (arith, nothing);
  even = λ half. absurd (omega (arith, nothing, half, power (places_left number.exponent)));
  within = subst (λ (n : ℕ). n ≤ most_units) (sym (abs-with_sign minus units)) within;
})
  where
    number : Decimal
    number = record { mantissa = with_sign minus a; exponent = pos 0 -ℤ pos k }

    none : gap_at minus a units k 0 ≡ 0
    none =
        let one : 10 ^ 0 * units_of_one ≡ units_of_one = omega arith in
        let same : units * 10 ^ k ≡ a * (10 ^ 0 * units_of_one) = omega (arith, exact) in
        let gap = (same_sign minus units a (10 ^ k) (10 ^ 0 * units_of_one)).over (omega (arith, same)) in
        omega (arith, gap, same)

    nothing : distance number (with_sign minus units) ≡ 0
    nothing = ap (λ (left : ℕ). gap_at minus a units left (places_right number.exponent)) (left_of k) ∙ ap (λ (right : ℕ). gap_at minus a units k right) (right_of k) ∙ none

-- ---- the units of digits and an exponent

pub units-above : (digits n : ℕ) → nearest (digits * 10 ^ n * units_of_one) (10 ^ 0) ≡ digits * 10 ^ (n + 10)
units-above digits n =
    let split : 10 ^ (n + 10) ≡ 10 ^ n * 10 ^ 10 = pow-add 10 n 10 in
    let u = digits * 10 ^ (n + 10) in
    let whole : digits * 10 ^ n * units_of_one ≡ u * 10 ^ 0 = omega (arith, ap (λ (x : ℕ). digits * x) split) in
    ap (λ (x : ℕ). nearest x (10 ^ 0)) whole ∙ nearest-whole u (10 ^ 0) (power 0)

pub units-below : (digits k : ℕ) → k ≤ 10 → nearest (digits * 10 ^ 0 * units_of_one) (10 ^ k) ≡ digits * 10 ^ (10 - k)
units-below digits k few =
    let u = digits * 10 ^ (10 - k) in
    let whole : digits * 10 ^ 0 * units_of_one ≡ u * 10 ^ k = omega (arith, ap (λ (x : ℕ). digits * x) (tens k few)) in
    ap (λ (x : ℕ). nearest x (10 ^ k)) whole ∙ nearest-whole u (10 ^ k) (power k)

pub units-far_below : (digits k : ℕ) → 10 < k → nearest (digits * 10 ^ 0 * units_of_one) (10 ^ k) ≡ nearest digits (10 ^ (k - 10))
units-far_below digits k far =
    let all : k - 10 + 10 ≡ k = omega arith in
    let split : 10 ^ k ≡ 10 ^ (k - 10) * 10 ^ 10 = ap (λ (n : ℕ). 10 ^ n) (sym all) ∙ pow-add 10 (k - 10) 10 in
    let whole : digits * 10 ^ 0 * units_of_one ≡ digits * units_of_one = omega arith in
    ap (λ (x : ℕ). nearest x (10 ^ k)) whole
    ∙ ap (λ (x : ℕ). nearest (digits * units_of_one) x) split
    ∙ nearest-common digits (10 ^ (k - 10)) units_of_one (power (k - 10)) (power 10)

-- the same of an exponent with its sign

true_from_T : (b : Bool) → T b → b ≡ true
true_from_T true t = refl
true_from_T false t = absurd t

pub units-at_above : (digits places : ℕ) (e : ℤ) → pos 0 ≤ℤ e → places ≡ nat_abs e → nearest (digits * 10 ^ places_right e * units_of_one) (10 ^ places_left e) ≡ digits * 10 ^ (places + 10)
units-at_above digits places (pos n) above is = units-above digits n ∙ ap (λ (k : ℕ). digits * 10 ^ (k + 10)) (sym is)
units-at_above digits places (negsuc n) above is = absurd above.le

pub units-at_below : (digits places : ℕ) (e : ℤ) → e <ℤ pos 0 → places ≡ nat_abs e → places ≤ 10 → nearest (digits * 10 ^ places_right e * units_of_one) (10 ^ places_left e) ≡ digits * 10 ^ (10 - places)
units-at_below digits places (pos n) below is few =
    let never = ltb-true n 0 (true_from_T _ below.lt) in
    absurd (omega (arith, never))
units-at_below digits places (negsuc n) below is few =
    units-below digits (suc n) (omega (arith, is, few)) ∙ ap (λ (k : ℕ). digits * 10 ^ (10 - k)) (sym is)

pub units-at_far_below : (digits places : ℕ) (e : ℤ) → e <ℤ pos 0 → places ≡ nat_abs e → 10 < places → nearest (digits * 10 ^ places_right e * units_of_one) (10 ^ places_left e) ≡ nearest digits (10 ^ (places - 10))
units-at_far_below digits places (pos n) below is far =
    let never = ltb-true n 0 (true_from_T _ below.lt) in
    absurd (omega (arith, never))
units-at_far_below digits places (negsuc n) below is far =
    units-far_below digits (suc n) (omega (arith, is, far)) ∙ ap (λ (k : ℕ). nearest digits (10 ^ (k - 10))) (sym is)

-- ---- a short decimal

pub units-short : (minus : Bool) (digits places : ℕ) → places ≤ 10 → digits < 10 ^ 18
    → units_in_range minus (digits * 10 ^ (10 - places)) ≡ value_of (record { mantissa = with_sign minus digits; exponent = pos 0 -ℤ pos places })
units-short minus digits places few small =
    let at_most : 10 - places ≤ 10 = omega arith in
    let unit : 10 ^ (10 - places) ≤ 10 ^ 10 = pow-le-pow_right (lit< tt) at_most in
    let units = digits * 10 ^ (10 - places) in
    let grown : units ≤ digits * 10 ^ 10 = mul-le-mul_left digits unit in
    let within : units ≤ most_units = omega (arith, grown, small) in
    let exact : units * 10 ^ places ≡ digits * units_of_one = omega (arith, ap (λ (n : ℕ). digits * n) (tens places few)) in
    ap (λ (b : Bool). cond b (Some (with_sign minus units)) None) (le-leb units most_units within)
    ∙ sym (value-exact minus digits units places exact within)

-- ---- rounding keeps the order of numbers

below-order : (x y : ℕ) → y ≤ x → neg_ℤ (pos x) ≤ℤ neg_ℤ (pos y)
below-order zero zero h = le_z_yes tt
below-order zero (suc y) h = absurd (omega (arith, h))
below-order (suc x) zero h = le_z_yes tt
below-order (suc x) (suc y) h = le_z_yes (T_from_true _ (le-leb y x (omega (arith, h))))

order-below : (x y : ℕ) → neg_ℤ (pos x) ≤ℤ neg_ℤ (pos y) → y ≤ x
order-below zero zero h = omega arith
order-below zero (suc y) h = absurd h.le
order-below (suc x) zero h = omega arith
order-below (suc x) (suc y) h = omega (arith, leb-true y x (true_from_T _ h.le))

below-any : (x y : ℕ) → neg_ℤ (pos x) ≤ℤ pos y
below-any zero y = le_z_yes (T_from_true _ (le-leb 0 y (omega arith)))
below-any (suc x) y = le_z_yes tt

not-below : (x y : ℕ) → 0 < y → pos x ≤ℤ neg_ℤ (pos y) → ⊥
not-below x zero some h = omega (arith, some)
not-below x (suc y) some h = absurd h.le

signed-order : (m n : ℤ) (r s r' s' q q' : ℕ) → 0 < s → 0 < s' → 0 < r' → (m *ℤ pos (r * s')) ≤ℤ (n *ℤ pos (r' * s))
    → IsNearest (nat_abs m * r * units_of_one) s q → IsNearest (nat_abs n * r' * units_of_one) s' q'
    → with_sign (int_lt m (pos 0)) q ≤ℤ with_sign (int_lt n (pos 0)) q'
signed-order (pos a) (pos b) r s r' s' q q' some some' some_r h is is' =
    let order : a * (r * s') ≤ b * (r' * s) = leb-true _ _ (true_from_T _ h.le) in
    let crossed : a * r * units_of_one * s' ≤ b * r' * units_of_one * s = omega (arith, order) in
    let found = nearest-order (a * r * units_of_one) s (b * r' * units_of_one) s' q q' some some' crossed is is' in
    subst (λ (minus : Bool). with_sign minus q ≤ℤ with_sign (int_lt (pos b) (pos 0)) q') (sym (le-ltb a 0 (omega arith)))
    (subst (λ (minus : Bool). pos q ≤ℤ with_sign minus q') (sym (le-ltb b 0 (omega arith))) (le_z_yes (T_from_true _ (le-leb q q' found))))
signed-order (pos a) (negsuc b) r s r' s' q q' some some' some_r h is is' =
    let part : 0 < r' * s = omega (arith, le-mul_of_pos_right r' some) in
    absurd (not-below (a * (r * s')) (suc b * (r' * s)) (omega (arith, part)) h)
signed-order (negsuc a) (pos b) r s r' s' q q' some some' some_r h is is' =
    subst (λ (minus : Bool). neg_ℤ (pos q) ≤ℤ with_sign minus q') (sym (le-ltb b 0 (omega arith))) (below-any q q')
signed-order (negsuc a) (negsuc b) r s r' s' q q' some some' some_r h is is' =
    let order : suc b * (r' * s) ≤ suc a * (r * s') = order-below (suc a * (r * s')) (suc b * (r' * s)) h in
    let crossed : suc b * r' * units_of_one * s ≤ suc a * r * units_of_one * s' = omega (arith, order) in
    below-order q q' (nearest-order (suc b * r' * units_of_one) s' (suc a * r * units_of_one) s q' q some' some crossed is' is)

pub value-order : (d e : Decimal) (u v : ℤ) → IsAtMost d e → value_of d ≡ Some u → value_of e ≡ Some v → u ≤ℤ v
value-order d e u v order is is' =
    let first = cond_some (nat_le (units_of d) most_units) (with_sign (is_below_zero d) (units_of d)) u is in
    let second = cond_some (nat_le (units_of e) most_units) (with_sign (is_below_zero e) (units_of e)) v is' in
    let found = signed-order d.mantissa e.mantissa (10 ^ places_right d.exponent) (scale d) (10 ^ places_right e.exponent) (scale e) (units_of d) (units_of e)
    (power (places_left d.exponent)) (power (places_left e.exponent)) (power (places_right e.exponent)) order (units-near d) (units-near e) in
    subst (λ (z : ℤ). z ≤ℤ v) first.1 (subst (λ (z : ℤ). with_sign (is_below_zero d) (units_of d) ≤ℤ z) second.1 found)
