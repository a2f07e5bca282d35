-- Whole numbers in decimal digits.
use Rattle.std.specs.Prelude.{ℕ, Bool, ◌&&◌, List, length, Option, Some, None, option_and_then, nat_le, if◌then◌else◌}
use Rattle.std.specs.Char.{is_ascii_digit}
use Rattle.std.specs.List.{list_all}
use Rattle.std.specs.Str.Parse.{digits_value}

-- one decimal digit or more, and nothing else
abbrev pub is_whole_number : List ℕ → Bool
is_whole_number text = nat_le 1 (length text) && list_all is_ascii_digit text

-- the number that a text writes, if it is decimal digits alone
abbrev pub whole_number : List ℕ → Option ℕ
whole_number text = if is_whole_number text then Some (digits_value 10 text) else None

-- the number that a text writes, if it is at most `greatest`
abbrev pub whole_number_up_to : ℕ → List ℕ → Option ℕ
whole_number_up_to greatest text = option_and_then
    (λ number. if nat_le number greatest then Some number else None)
    (whole_number text)

-- the number that a text writes, if it has at most `most` digits
abbrev pub short_whole_number : ℕ → List ℕ → Option ℕ
short_whole_number most text = if nat_le (length text) most then whole_number text else None
