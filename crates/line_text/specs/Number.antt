-- The text of a number, and what it denotes: a whole number times a power of ten.
use Rattle.std.specs.Prelude.{◌≡◌, ℕ, ◌+◌, ◌-◌, ◌*◌, Bool, false, ◌&&◌, ◌||◌, ℤ, pos, negsuc, neg_ℤ, ◌-ℤ◌, List, [], ◌∷◌, ◌++◌, length, nat_le, ◌==◌, if◌then◌else◌, Option, Some, None, option_map, unwrap_or}
use Rattle.std.specs.List.{list_all}
use Rattle.std.specs.Char.{is_ascii_digit}
use Rattle.relay_base.specs.Ascii.{plus_sign, minus_sign, full_stop, digit_zero}
use Rattle.line_text.specs.Halves.{Halves, halves}

-- mantissa times ten to the exponent
pub record Decimal : Type 0 where
  pub mantissa : ℤ
  pub exponent : ℤ

-- ---- signs and digits

-- whether a text begins with a minus sign
abbrev pub is_minus : List ℕ → Bool
is_minus [] = false
is_minus (b ∷ bs) = b == minus_sign

-- what follows a plus or a minus sign, or the whole text if there is none
abbrev pub without_sign : List ℕ → List ℕ
without_sign [] = []
without_sign (b ∷ bs) = if b == plus_sign || b == minus_sign then bs else b ∷ bs

abbrev pub with_sign : Bool → ℕ → ℤ
with_sign minus n = if minus then neg_ℤ (pos n) else pos n

-- a number with decimal digits after it
abbrev pub with_digits : ℕ → List ℕ → ℕ
with_digits number [] = number
with_digits number (b ∷ digits) = with_digits (number * 10 + (b - digit_zero)) digits

-- the number that decimal digits write
abbrev pub whole_of : List ℕ → ℕ
whole_of digits = with_digits 0 digits

-- ---- the marks in a number

abbrev pub is_point : ℕ → Bool
is_point b = b == full_stop

-- e or E
abbrev pub is_exponent_mark : ℕ → Bool
is_exponent_mark b = b == 69 || b == 101

-- ---- the limits of a number

-- how many digits there may be before the exponent, and in it
abbrev pub most_digits : ℕ
most_digits = 38

abbrev pub most_places : ℕ
most_places = 3

-- the exponents that this number of digits can write: -999 to 999
abbrev pub lowest_written : ℤ
lowest_written = negsuc 998

abbrev pub highest_exponent : ℤ
highest_exponent = pos 999

-- the least exponent, once the places after the point are subtracted: -999 - 38
abbrev pub lowest_exponent : ℤ
lowest_exponent = negsuc 1036

-- ---- the digits before the exponent

-- digits on both sides of the point, at least one and not too many in all
abbrev pub are_digits : List ℕ → List ℕ → Bool
are_digits whole fraction =
    nat_le 1 (length whole + length fraction) && nat_le (length whole + length fraction) most_digits
    && list_all is_ascii_digit whole && list_all is_ascii_digit fraction

-- the digits on both sides of the point, as one number, less the places after the point
abbrev pub decimal_of : Bool → List ℕ → List ℕ → ℤ → Decimal
decimal_of minus whole fraction exponent =
    record {
      mantissa = with_sign minus (whole_of (whole ++ fraction));
      exponent = exponent -ℤ pos (length fraction);
    }

-- digits are followed by nothing, or by a point and a fraction
abbrev pub IsAfterWhole : List ℕ → List ℕ → Type 0
IsAfterWhole [] fraction = fraction ≡ []
IsAfterWhole (b ∷ rest) fraction = (b ≡ full_stop) × (rest ≡ fraction)

-- ---- the exponent

-- one to three digits, with or without a sign
abbrev pub are_places : List ℕ → Bool
are_places digits =
    nat_le 1 (length digits) && nat_le (length digits) most_places && list_all is_ascii_digit digits

abbrev pub places_in : List ℕ → Option ℤ
places_in text =
    if are_places (without_sign text)
    then Some (with_sign (is_minus text) (whole_of (without_sign text)))
    else None

-- 0 if there is no exponent
abbrev pub exponent_in : Option (List ℕ) → Option ℤ
exponent_in None = Some (pos 0)
exponent_in (Some text) = places_in text

-- ---- the whole text

abbrev pub decimal_of_digits : Bool → List ℕ → List ℕ → Option ℤ → Option Decimal
decimal_of_digits minus whole fraction exponent =
    if are_digits whole fraction
    then option_map (decimal_of minus whole fraction) exponent
    else None

-- the digits in the front of a number, round the point
abbrev pub decimal_round_point : Bool → Halves → Option ℤ → Option Decimal
decimal_round_point minus digits exponent =
    decimal_of_digits minus digits.front (unwrap_or digits.back []) exponent

abbrev pub decimal_round_mark : Bool → Halves → Option Decimal
decimal_round_mark minus text =
    decimal_round_point minus (halves is_point text.front) (exponent_in text.back)

-- what a text denotes, if it is the text of a number
abbrev pub number_of : List ℕ → Option Decimal
number_of text = decimal_round_mark (is_minus text) (halves is_exponent_mark (without_sign text))
