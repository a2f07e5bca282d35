-- The line that is written of a datapoint.
use Rattle.std.specs.Prelude.{ℕ, zero, suc, ◌+◌, ◌/◌, ◌%◌, ◌^◌, ℤ, pos, negsuc, Bool, List, [], ◌∷◌, ◌++◌, decimal, ◌==◌, if◌then◌else◌}
use Rattle.std.specs.List.{flat_map}
use Rattle.relay_base.specs.Ascii.{newline, space, minus_sign, full_stop, digit_zero}
use Rattle.line_text.specs.Datapoint.{Datapoint}
use Rattle.line_text.specs.Name.{longest_name}
use Rattle.line_text.specs.Value.{units_of_one}

-- the digits of `part` / 10^places after the point, up to the last that is not 0
unfoldable pub digits_after_point : ℕ → ℕ → List ℕ
digits_after_point zero part = []
digits_after_point (suc places) part =
    if part == 0 then []
    else (digit_zero + part / 10 ^ places) ∷ digits_after_point places (part % 10 ^ places)

-- nothing if the fraction is 0
abbrev pub printed_fraction : ℕ → List ℕ
printed_fraction part = if part == 0 then [] else full_stop ∷ digits_after_point 10 part

-- the whole part, and a fraction if there is one
abbrev pub printed_magnitude : ℕ → List ℕ
printed_magnitude units = decimal (units / units_of_one) ++ printed_fraction (units % units_of_one)

-- a minus sign, or nothing
abbrev pub printed_sign : Bool → List ℕ
printed_sign minus = if minus then minus_sign ∷ [] else []

-- a value in units, with a minus sign below zero
abbrev pub printed_value : ℤ → List ℕ
printed_value (pos units) = printed_magnitude units
printed_value (negsuc n) = minus_sign ∷ printed_magnitude (suc n)

-- name, a space, the value, a space, the time
abbrev pub printed_text : Datapoint → List ℕ
printed_text p = p.name ++ space ∷ printed_value p.value ++ space ∷ decimal p.time

-- that, and byte 10
abbrev pub printed_line : Datapoint → List ℕ
printed_line p = printed_text p ++ newline ∷ []

-- the bytes of the longest printed line: a name, a value and a time, two spaces and byte 10
abbrev pub longest_printed : ℕ
longest_printed = longest_name + 1 + 31 + 1 + 16 + 1

-- the lines of these datapoints, one after another
abbrev pub printed_lines : List Datapoint → List ℕ
printed_lines ps = flat_map printed_line ps
