-- The value that a number denotes: a number of ten-billionths. Only this file says which numbers have one.
use Rattle.std.specs.Prelude.{◌≡◌, ℕ, suc, ◌*◌, ◌^◌, ◌≤◌, Bool, true, ℤ, pos, negsuc, nat_abs, ◌*ℤ◌, ◌-ℤ◌, nat_le, int_lt, if◌then◌else◌, Option, Some, None}
use Rattle.line_text.specs.Nearest.{nearest, is_even}
use Rattle.line_text.specs.Number.{Decimal, with_sign}

-- how many places the point moves to the left, and how many to the right
abbrev pub places_left : ℤ → ℕ
places_left (pos n) = 0
places_left (negsuc n) = suc n

abbrev pub places_right : ℤ → ℕ
places_right (pos n) = n
places_right (negsuc n) = 0

-- the number is its magnitude over its scale, and below 0 or not
abbrev pub magnitude : Decimal → ℕ
magnitude d = nat_abs d.mantissa * 10 ^ places_right d.exponent

abbrev pub scale : Decimal → ℕ
scale d = 10 ^ places_left d.exponent

abbrev pub is_below_zero : Decimal → Bool
is_below_zero d = int_lt d.mantissa (pos 0)

-- a value is a whole number of units; 10,000,000,000 units are 1
abbrev pub units_of_one : ℕ
units_of_one = 10 ^ 10

-- the units of the largest value, above zero and below: 2^63
abbrev pub most_units : ℕ
most_units = 2 ^ 63 * units_of_one

-- how far u units are from the number, in units and times the scale
abbrev pub distance : Decimal → ℤ → ℕ
distance d u =
    nat_abs (u *ℤ pos (scale d) -ℤ d.mantissa *ℤ pos (10 ^ places_right d.exponent * units_of_one))

-- u is the number of units nearest to the number, the even one of two that are as near, and in range
pub record IsValueOf (d : Decimal) (u : ℤ) : Type 0 where
  pub near : 2 * distance d u ≤ scale d
  pub even : 2 * distance d u ≡ scale d → is_even (nat_abs u) ≡ true
  pub within : nat_abs u ≤ most_units

-- the same, computed

abbrev pub units_in_range : Bool → ℕ → Option ℤ
units_in_range minus units =
    if nat_le units most_units then Some (with_sign minus units) else None

abbrev pub value_of : Decimal → Option ℤ
value_of d =
    units_in_range (is_below_zero d) (nearest (magnitude d * units_of_one) (scale d))
