-- The value of a binary64, as a relation and as it is computed.
use Rattle.std.proofs.Common.{◌≡◌, ℕ, zero, suc, ◌*◌, ◌<◌, ◌≤◌, ℤ, Bool, true, false, cond, Option, Some, None, refl, sym, ap, ◌∙◌, subst, lit<}
use Rattle.std.proofs.Math.Nat.{one-le-pow}
use Rattle.std.specs.Prelude.{nat_abs, nat_le}
use Rattle.std.proofs.lemmas.Bool.{leb-true, le-leb}
use Rattle.line_text.specs.Nearest.{IsNearest}
use Rattle.line_text.specs.Number.{with_sign}
use Rattle.line_text.specs.Value.{units_of_one, most_units, units_in_range}
use Rattle.pickle_subset.specs.Binary.{is_negative, is_number, numerator, denominator, IsBinaryValue, binary_units, binary_value}
use Rattle.line_text.proofs.NearestLemmas.{nearest-is, nearest-from}

some_denominator : (bits : ℕ) → 0 < denominator bits
some_denominator bits = one-le-pow _ 2 (lit< tt)

abs-sign : (minus : Bool) (n : ℕ) → nat_abs (with_sign minus n) ≡ n
abs-sign true zero = refl
abs-sign true (suc n) = refl
abs-sign false n = refl

-- a value that passes a test
chosen : {A : Type 0} (b : Bool) (x : Option A) (y : A) → cond b x None ≡ Some y → (b ≡ true) × (x ≡ Some y)
chosen true x y is = (refl, is)
chosen false x y is = cc

same_some : (x y : ℤ) → Some x ≡ Some y → x ≡ y
same_some x y is = cc

pub IsBinaryValue-from : (bits : ℕ) (u : ℤ) → binary_value bits ≡ Some u → IsBinaryValue bits u
IsBinaryValue-from bits u is =
    let number = chosen (is_number bits) (units_in_range (is_negative bits) (binary_units bits)) u is in
    let ranged = chosen (nat_le (binary_units bits) most_units) (Some (with_sign (is_negative bits) (binary_units bits))) u number.1 in
    let value : with_sign (is_negative bits) (binary_units bits) ≡ u = same_some _ _ ranged.1 in
    let units : binary_units bits ≡ nat_abs u = sym (abs-sign (is_negative bits) (binary_units bits)) ∙ ap nat_abs value in
    let near = nearest-is (numerator bits * units_of_one) (denominator bits) (some_denominator bits) in
    record {
      number = number.0;
      near = subst (IsNearest (numerator bits * units_of_one) (denominator bits)) units near;
      sign = sym value ∙ ap (with_sign (is_negative bits)) units;
      within = subst (λ (n : ℕ). n ≤ most_units) units (leb-true _ _ ranged.0);
    }

pub binary_value-from : (bits : ℕ) (u : ℤ) → IsBinaryValue bits u → binary_value bits ≡ Some u
binary_value-from bits u is =
    let units : binary_units bits ≡ nat_abs u =
    nearest-from (numerator bits * units_of_one) (denominator bits) (nat_abs u) (some_denominator bits) is.near in
    ap (λ (b : Bool). cond b (units_in_range (is_negative bits) (binary_units bits)) None) is.number
    ∙ ap (units_in_range (is_negative bits)) units
    ∙ ap (λ (b : Bool). cond b (Some (with_sign (is_negative bits) (nat_abs u))) None) (le-leb (nat_abs u) most_units is.within)
    ∙ ap Some (sym is.sign)
