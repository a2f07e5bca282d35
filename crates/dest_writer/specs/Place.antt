-- Places in the text of datapoints.
use Rattle.std.specs.Prelude.{◌≡◌, ◌⊎◌, ◌<◌, ℕ, ◌+◌, List, [], ◌∷◌, length, take, drop}
use Rattle.line_text.specs.Datapoint.{Datapoint}
use Rattle.line_text.specs.Print.{printed_line, printed_lines}
use Rattle.dest_writer.specs.declared.place.Place.{Place}

-- the first line, or nothing
abbrev pub first_line : List Datapoint → List ℕ
first_line [] = []
first_line (point ∷ points) = printed_line point

-- the line of the datapoint at an index, or nothing behind the last
abbrev pub line_at : ℕ → List Datapoint → List ℕ
line_at index points = first_line (drop index points)

-- how many bytes the first `count` lines have
abbrev pub length_of_first : ℕ → List Datapoint → ℕ
length_of_first count points = length (printed_lines (take count points))

-- how many bytes of the text are before a place
abbrev pub position : Place → List Datapoint → ℕ
position place points = length_of_first place.index points + place.offset

-- a place is before a byte of its line, or at the end of the text
abbrev pub IsPlace : Place → List Datapoint → Type 0
IsPlace place points = (place.offset < length (line_at place.index points))
    ⊎ ((place.index ≡ length points) × (place.offset ≡ 0))
