-- A reader of a connection: what it keeps between pieces, and what it represents.
use Rattle.std.specs.Prelude.{◌≡◌, ℕ, ◌+◌, Bool, true, false, ◌&&◌, ◌||◌, ◌++◌, List, [], ◌∷◌, take_while, ◌==◌}
use Rattle.std.specs.List.{list_all}
use Rattle.relay_base.specs.Ascii.{newline}
use Rattle.line_text.specs.Line.{Line, count_of}
use Rattle.line_text.specs.Connection.{Arrival, Texts, cut, arrivals, is_open, is_closed, is_short, fits, accepted_points, bad_lines}
use Rattle.line_text.specs.declared.reader.FeedEnd.{FeedEnd}
use Rattle.line_text.specs.declared.reader.FeedEnd.TheVariants.{Open, LineTooLong}
use Rattle.line_text.specs.declared.found_lines.FoundLines.{FoundLines}
use Rattle.line_text.specs.declared.found_lines.NextRest.{NextRest}
use Rattle.line_text.specs.declared.found_lines.NextRest.TheVariants.{Longer, New, Closed}

-- what is kept of a connection: what follows its last newline; irrelevant once it is closed
pub record ReaderModel : Type 0 where
  pub rest : List ℕ
  pub closed : Bool
  pub bad : ℕ

-- the reader keeps this of this connection
pub record Represents (s : ReaderModel) (c : List Arrival) : Type 0 where
  pub rest : is_open c ≡ true → s.rest ≡ (cut c).unended
  pub closed : s.closed ≡ is_closed c
  pub bad : s.bad ≡ count_of (bad_lines c)

-- new has the same more than old as after has more than before
abbrev pub GainsAlike : {A : Type 0} → List A → List A → List A → List A → Type 0
GainsAlike {A} old new before after =
    (gained : List A) × (new ≡ old ++ gained) × (after ≡ before ++ gained)

-- a reader reads nothing more of the connection, whatever follows on it
pub record GivesNoMore (c : List Arrival) : Type 0 where
  pub closed : (more : List Arrival) → is_closed (c ++ more) ≡ true
  pub accepted_points : (more : List Arrival) → accepted_points (c ++ more) ≡ accepted_points c
  pub bad : (more : List Arrival) → bad_lines (c ++ more) ≡ bad_lines c

-- the answer to a piece says whether the connection is closed
abbrev pub is_too_long : FeedEnd → Bool
is_too_long Open = false
is_too_long LineTooLong = true

-- ---- what a piece gives a reader to move on with

-- whether nothing more is read
abbrev pub closes : NextRest → Bool
closes Closed = true
closes (Longer more) = false
closes (New text) = false

-- what is kept after what was kept before
abbrev pub rest_after : List ℕ → NextRest → List ℕ
rest_after rest (Longer more) = rest ++ more.now
rest_after rest (New text) = text.now
rest_after rest Closed = rest

-- a reader that moved on with what was found
abbrev pub model_after : ReaderModel → FoundLines → ReaderModel
model_after s found =
    record {
      rest = rest_after s.rest found.rest;
      closed = s.closed || closes found.rest;
      bad = count_of (s.bad + found.bad_lines);
    }

-- the count of what is more after than before
abbrev pub CountsMore : ℕ → ℕ → ℕ → Type 0
CountsMore reported before after = (more : ℕ) × (reported ≡ count_of more) × (after ≡ before + more)

-- ---- one piece

abbrev pub is_newline_byte : ℕ → Bool
is_newline_byte b = b == newline

-- a cut with a line before it
abbrev pub with_line : Line → Texts → Texts
with_line line k = record { ended = line ∷ k.ended; unended = k.unended }

-- the text has no newline
abbrev pub HasNoLine : List ℕ → Type 0
HasNoLine text = (moment : ℕ) → cut (arrivals text moment) ≡ record { ended = []; unended = text }

-- the text is a line and its newline, and then a rest
abbrev pub BeginsLine : List ℕ → List ℕ → List ℕ → Type 0
BeginsLine text line rest =
    (moment : ℕ)
    → cut (arrivals text moment)
    ≡ with_line (record { text = line; moment = moment }) (cut (arrivals rest moment))

-- a cut whose first text begins with a rest
abbrev pub with_rest : List ℕ → List Line → List ℕ → Texts
with_rest rest [] unended = record { ended = []; unended = rest ++ unended }
with_rest rest (line ∷ others) unended =
    record { ended = (record line { text = rest ++ line.text }) ∷ others; unended = unended }

-- what a piece adds after a rest
abbrev pub continuation : List ℕ → List ℕ → ℕ → Texts
continuation rest piece moment =
    with_rest rest (cut (arrivals piece moment)).ended (cut (arrivals piece moment)).unended

-- the lines of a cut up to and without the first that is too long
abbrev pub short_lines : Texts → List Line
short_lines k = take_while is_short k.ended

-- each text of a cut fits
abbrev pub is_open_cut : Texts → Bool
is_open_cut k = list_all is_short k.ended && fits k.unended
