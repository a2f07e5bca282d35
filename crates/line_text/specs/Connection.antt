-- A connection: its bytes, the lines that they are, and what a reader reads of them.
use Rattle.std.specs.Prelude.{ℕ, Bool, not, ◌&&◌, List, [], ◌∷◌, length, map, take_while, nat_le, ◌==◌, if◌then◌else◌}
use Rattle.std.specs.List.{list_all}
use Rattle.relay_base.specs.Ascii.{newline}
use Rattle.line_text.specs.Datapoint.{Datapoint}
use Rattle.line_text.specs.Line.{Line, points, bad_count}

-- a byte, and the moment of the piece that held it
pub record Arrival : Type 0 where
  pub byte : ℕ
  pub moment : ℕ

-- the bytes of a piece received at a moment
abbrev pub arrivals : List ℕ → ℕ → List Arrival
arrivals piece moment = map (λ b. record { byte = b; moment = moment }) piece

-- ---- a connection, cut after each byte 10

abbrev pub is_newline : Arrival → Bool
is_newline a = a.byte == newline

-- each text that byte 10 ends, with the moment of its byte 10, and what follows the last
pub record Texts : Type 0 where
  pub ended : List Line
  pub unended : List ℕ

-- with a byte before the first text
abbrev pub cut_with : ℕ → List Line → List ℕ → Texts
cut_with b [] rest = record { ended = []; unended = b ∷ rest }
cut_with b (line ∷ others) rest =
    record { ended = (record line { text = b ∷ line.text }) ∷ others; unended = rest }

-- with an arrival before it
abbrev pub cut_from : Arrival → Texts → Texts
cut_from a k =
    if is_newline a
    then record k { ended = (record { text = []; moment = a.moment }) ∷ k.ended }
    else cut_with a.byte k.ended k.unended

abbrev pub cut : List Arrival → Texts
cut [] = record { ended = []; unended = [] }
cut (a ∷ c) = cut_from a (cut c)

-- ---- the limit on a line

-- in bytes, without its byte 10
abbrev pub longest_line : ℕ
longest_line = 16384

abbrev pub fits : List ℕ → Bool
fits text = nat_le (length text) longest_line

abbrev pub is_short : Line → Bool
is_short line = fits line.text

-- the lines of a connection, up to and without the first that is too long
abbrev pub lines : List Arrival → List Line
lines c = take_while is_short (cut c).ended

-- each line, and the part of the next received so far, fits
abbrev pub is_open : List Arrival → Bool
is_open c = list_all is_short (cut c).ended && fits (cut c).unended

abbrev pub is_closed : List Arrival → Bool
is_closed c = not (is_open c)

-- ---- what a connection gives

-- the datapoints of its lines, in order
abbrev pub accepted_points : List Arrival → List Datapoint
accepted_points c = points (lines c)

-- how many of its lines are neither a datapoint nor blank
abbrev pub bad_lines : List Arrival → ℕ
bad_lines c = bad_count (lines c)
