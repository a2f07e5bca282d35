-- A piece of a connection, cut at its newlines.
use Rattle.std.specs.Prelude.{◌≡◌, ℕ, Bool, not, ◌++◌, List, [], ◌∷◌, map}
use Rattle.std.specs.List.{list_all}
use Rattle.relay_base.specs.Ascii.{newline}
use Rattle.line_text.specs.Line.{Line}
use Rattle.line_text.specs.Datagram.{line_at}
use Rattle.line_text.specs.Connection.{cut, arrivals}
use Rattle.line_text.specs.Reader.{is_newline_byte}

-- whether a text has no byte 10
abbrev pub is_unbroken : List ℕ → Bool
is_unbroken text = list_all (λ b. not (is_newline_byte b)) text

-- each text followed by byte 10, and then a rest
abbrev pub with_newlines : List (List ℕ) → List ℕ → List ℕ
with_newlines [] rest = rest
with_newlines (text ∷ others) rest = text ++ newline ∷ with_newlines others rest

-- the texts of lines
abbrev pub texts_of : List Line → List (List ℕ)
texts_of lines = map (λ line. line.text) lines

-- texts as lines of one moment
abbrev pub lines_at : ℕ → List (List ℕ) → List Line
lines_at moment texts = map (line_at moment) texts

-- the texts that byte 10 ends in these bytes, whatever their moment
abbrev pub ended_texts : List ℕ → List (List ℕ)
ended_texts bytes = texts_of (cut (arrivals bytes 0)).ended

-- a connection that is this piece alone has these texts, and then this rest
abbrev pub IsCutInto : List ℕ → List (List ℕ) → List ℕ → Type 0
IsCutInto piece texts rest =
    (moment : ℕ)
    → cut (arrivals piece moment) ≡ record { ended = lines_at moment texts; unended = rest }
