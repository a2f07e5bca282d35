-- The words of a line of a script.
use Rattle.std.specs.Prelude.{ℕ, Bool, not, ◌||◌, ◌&&◌, ◌==◌, nat_le, List, length, Option, Some, None, option_and_then, if◌then◌else◌}
use Rattle.std.specs.Char.{is_ascii_digit}
use Rattle.std.specs.List.{list_all}
use Rattle.std.specs.Result.{result_ok}
use Rattle.std.specs.Str.{bytes_eq}
use Rattle.hex.specs.Hex.{decode_of}
use Rattle.relay_base.specs.WholeNumber.{short_whole_number}
use Rattle.line_text.specs.Time.{last_time}

-- the same word
abbrev pub is_word : List ℕ → List ℕ → Bool
is_word word other = bytes_eq word other

-- the most digits of a number
abbrev pub most_digits : ℕ
most_digits = 16

-- numbers are one to sixteen decimal digits
abbrev pub number : List ℕ → Option ℕ
number word = short_whole_number most_digits word

-- a moment is a number that is at most the last time
abbrev pub moment : List ℕ → Option ℕ
moment word = option_and_then
    (λ seconds. if nat_le seconds last_time then Some seconds else None)
    (number word)

abbrev pub lower_a : ℕ
lower_a = 97

abbrev pub lower_f : ℕ
lower_f = 102

-- a hexadecimal digit, its letters in lower case
abbrev pub is_hex_digit : ℕ → Bool
is_hex_digit b = is_ascii_digit b || nat_le lower_a b && nat_le b lower_f

-- the bytes that hexadecimal digits write, two digits each, and at least one byte
abbrev pub hex_bytes : List ℕ → Option (List ℕ)
hex_bytes word =
    if not (length word == 0) && list_all is_hex_digit word
    then result_ok (decode_of word)
    else None
