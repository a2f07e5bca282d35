-- A datagram: its lines, and what a reader reads of them.
use Rattle.std.specs.Prelude.{◌≡◌, ℕ, Bool, ◌&&◌, List, [], ◌∷◌, map, nat_le}
use Rattle.std.specs.List.{slice_split}
use Rattle.relay_base.specs.Ascii.{newline, carriage_return}
use Rattle.line_text.specs.Datapoint.{Datapoint}
use Rattle.line_text.specs.Line.{Line, points, bad_count}

-- a byte between two lines: 10 to 13
abbrev pub is_line_break : ℕ → Bool
is_line_break b = nat_le newline b && nat_le b carriage_return

abbrev pub line_at : ℕ → List ℕ → Line
line_at moment text = record { text = text; moment = moment }

-- the parts between line breaks, the last one too, each with the moment of the datagram
abbrev pub lines : List ℕ → ℕ → List Line
lines datagram moment = map (line_at moment) (slice_split is_line_break datagram)

-- the datapoints of its lines, in order
abbrev pub accepted_points : List ℕ → ℕ → List Datapoint
accepted_points datagram moment = points (lines datagram moment)

-- how many of its lines are neither a datapoint nor blank
abbrev pub bad_lines : List ℕ → ℕ → ℕ
bad_lines datagram moment = bad_count (lines datagram moment)

-- ---- the first of the lines

-- the text is the last line
abbrev pub IsLastLine : List ℕ → Type 0
IsLastLine text = (moment : ℕ) → lines text moment ≡ line_at moment text ∷ []

-- the text is a line, the byte that ends it, and then a rest
abbrev pub BeginsLine : List ℕ → List ℕ → List ℕ → Type 0
BeginsLine text line rest =
    (moment : ℕ) → lines text moment ≡ line_at moment line ∷ lines rest moment
