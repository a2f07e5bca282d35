-- A binary64 by whole numbers: the number that its 64 bits denote, exactly, and the value and the time of that number.
use Rattle.std.specs.Prelude.{◌≡◌, ℕ, ℤ, ◌+◌, ◌-◌, ◌*◌, ◌/◌, ◌%◌, ◌^◌, ◌≤◌, max, nat_abs, Bool, true, not, nat_le, ◌==◌, if◌then◌else◌, Option, None}
use Rattle.line_text.specs.Nearest.{IsNearest, nearest}
use Rattle.line_text.specs.Number.{with_sign}
use Rattle.line_text.specs.Value.{units_of_one, most_units, units_in_range}
use Rattle.line_text.specs.Time.{time_below_zero, time_from_zero}

-- the sign bit, the next 11 bits and the last 52

abbrev pub is_negative : ℕ → Bool
is_negative bits = nat_le (2 ^ 63) bits

abbrev pub exponent : ℕ → ℕ
exponent bits = bits / 2 ^ 52 % 2 ^ 11

abbrev pub fraction : ℕ → ℕ
fraction bits = bits % 2 ^ 52

-- with the greatest exponent the bits are an infinity or not a number
abbrev pub is_number : ℕ → Bool
is_number bits = not (exponent bits == 2047)

-- the significand has a first bit that is not written, unless the exponent is 0
abbrev pub significand : ℕ → ℕ
significand bits = if exponent bits == 0 then fraction bits else 2 ^ 52 + fraction bits

-- an exponent of 0 has the place of 1
abbrev pub place : ℕ → ℕ
place bits = max 1 (exponent bits)

-- the magnitude is the significand times two to the power of the place less 1075, and nothing of it is rounded: a
-- numerator over a denominator

abbrev pub numerator : ℕ → ℕ
numerator bits = significand bits * 2 ^ (place bits - 1075)

abbrev pub denominator : ℕ → ℕ
denominator bits = 2 ^ (1075 - place bits)

-- u is the number of units nearest to the number, the even one of two that are as near, with its sign and in range
pub record IsBinaryValue (bits : ℕ) (u : ℤ) : Type 0 where
  pub number : is_number bits ≡ true
  pub near : IsNearest (numerator bits * units_of_one) (denominator bits) (nat_abs u)
  pub sign : u ≡ with_sign (is_negative bits) (nat_abs u)
  pub within : nat_abs u ≤ most_units

-- the same, computed: the exact number is rounded once

abbrev pub binary_units : ℕ → ℕ
binary_units bits = nearest (numerator bits * units_of_one) (denominator bits)

abbrev pub binary_value : ℕ → Option ℤ
binary_value bits =
    if is_number bits then units_in_range (is_negative bits) (binary_units bits) else None

-- a time of a whole part and its sign, at a moment
abbrev pub whole_time : Bool → ℕ → ℕ → Option ℕ
whole_time negative whole moment =
    if negative then time_below_zero whole moment else time_from_zero whole

-- what follows the point is cut off
abbrev pub binary_time : ℕ → ℕ → Option ℕ
binary_time bits moment =
    if is_number bits then whole_time (is_negative bits) (numerator bits / denominator bits) moment
    else None
