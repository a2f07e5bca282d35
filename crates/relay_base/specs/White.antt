-- White space in a line, and texts without it at their ends.
use Rattle.std.specs.Prelude.{ℕ, ◌-◌, Bool, ◌||◌, not, ◌==◌, List, reverse, length, take, drop}
use Rattle.std.specs.List.{position_or_len}
use Rattle.relay_base.specs.Ascii.{tab, vertical_tab, form_feed, carriage_return, space}

-- white space in a line
abbrev pub is_white : ℕ → Bool
is_white b = b == tab || b == vertical_tab || b == form_feed || b == carriage_return || b == space

abbrev pub is_not_white : ℕ → Bool
is_not_white b = not (is_white b)

-- how many bytes of white space a text begins with
abbrev pub leading_white : List ℕ → ℕ
leading_white text = position_or_len is_not_white text

-- a text without the white space that it begins with
abbrev pub without_leading : List ℕ → List ℕ
without_leading text = drop (leading_white text) text

-- a text without the white space that it ends with
abbrev pub without_trailing : List ℕ → List ℕ
without_trailing text = take (length text - leading_white (reverse text)) text

-- a text without the white space at its ends
abbrev pub strip : List ℕ → List ℕ
strip text = without_trailing (without_leading text)
