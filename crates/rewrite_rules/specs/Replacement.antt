-- What a replacement says.
use Rattle.std.specs.Prelude.{ℕ, ◌-◌, Bool, false, not, ◌&&◌, ◌==◌, nat_lt, List, [], ◌∷◌, Option, Some, None, option_map, chars, if◌then◌else◌}
use Rattle.std.specs.Char.{is_ascii_digit}
use Rattle.relay_base.specs.Ascii.{space, digit_zero, backslash, delete}
use Rattle.patterns.specs.declared.part.Part.{Part}
use Rattle.patterns.specs.declared.part.Part.TheVariants.{Character, Group}

-- no control character, and no white space of ASCII
abbrev pub is_plain : ℕ → Bool
is_plain c = nat_lt space c && not (c == delete)

abbrev pub begins_with_digit : List ℕ → Bool
begins_with_digit [] = false
begins_with_digit (c ∷ cs) = is_ascii_digit c

-- a digit from 1 to 9 that no digit follows, and the number of a group
abbrev pub names_group : ℕ → ℕ → List ℕ → Bool
names_group groups digit after =
    nat_lt digit_zero digit && is_ascii_digit digit
    && not (begins_with_digit after) && nat_lt (digit - digit_zero) groups

-- the parts after a first one
abbrev pub part_before : Part → Option (List Part) → Option (List Part)
part_before part parts = option_map (λ ps. part ∷ ps) parts

-- the parts after a character, if it may represent itself
abbrev pub character_before : ℕ → Option (List Part) → Option (List Part)
character_before c parts = if is_plain c then part_before (Character c) parts else None

-- The parts of a replacement, if the pattern has this number of groups, including group 0. A backslash is before the
-- number of a group or before another backslash.
abbrev pub parts_of : ℕ → List ℕ → Option (List Part)
parts_of groups [] = Some []
parts_of groups (c ∷ []) = if c == backslash then None else character_before c (Some [])
parts_of groups (c ∷ d ∷ cs) =
    if not (c == backslash) then character_before c (parts_of groups (d ∷ cs))
    else (if d == backslash then part_before (Character backslash) (parts_of groups cs)
    else (if names_group groups d cs then part_before (Group (d - digit_zero)) (parts_of groups cs)
    else None))

-- the parts of a replacement's text
unfoldable pub replacement_of : ℕ → List ℕ → Option (List Part)
replacement_of groups text = parts_of groups (chars text)
