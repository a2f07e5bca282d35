-- What a line of a configuration file says.
use Rattle.std.specs.Prelude.{ℕ, ◌+◌, ◌-◌, Bool, ◌&&◌, ◌||◌, ◌==◌, List, [], ◌∷◌, length, take, drop, Option, Some, None, option_and_then, nat_le, if◌then◌else◌, slice_index, slice_range, position}
use Rattle.relay_base.specs.Ascii.{number_sign, colon, semicolon, equals_sign, left_bracket, right_bracket}
use Rattle.relay_base.specs.White.{strip}
use Rattle.conf_text.specs.Sections.{Pair}

-- a header has a name, and a setting a key and a value, if they are well formed
pub data Meaning : Type 0 where
  Skipped : Meaning
  Header : Option (List ℕ) → Meaning
  Setting : Option Pair → Meaning

-- for a line that begins with `[`: what is between that and a `]` at its end, at least one byte
abbrev pub header_name : List ℕ → Option (List ℕ)
header_name line =
    if nat_le 3 (length line) && slice_index line (length line - 1) == right_bracket
    then Some (slice_range line 1 (length line - 1))
    else None

-- `=` or `:`
abbrev pub is_cut : ℕ → Bool
is_cut b = b == equals_sign || b == colon

-- a key is not empty
abbrev pub pair_of : List ℕ → List ℕ → Option Pair
pair_of key value = if length key == 0 then None else Some (record { key = key; value = value })

-- a line is cut at its first `=` or `:`, and both sides are stripped
abbrev pub setting_of : List ℕ → Option Pair
setting_of line = option_and_then
    (λ i. pair_of (strip (take i line)) (strip (drop (i + 1) line)))
    (position is_cut line)

-- a line without white space at its ends: empty, or one that begins with `#` or `;`, or with `[`, or any other
abbrev pub meaning_of_content : List ℕ → Meaning
meaning_of_content [] = Skipped
meaning_of_content (b ∷ bs) =
    if b == number_sign || b == semicolon then Skipped
    else (if b == left_bracket then Header (header_name (b ∷ bs))
    else Setting (setting_of (b ∷ bs)))

-- what a line says
unfoldable pub meaning_of : List ℕ → Meaning
meaning_of line = meaning_of_content (strip line)
