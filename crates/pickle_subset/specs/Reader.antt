-- A reader of a connection of pickles: what it keeps between pieces, and what it represents.
use Rattle.std.specs.Prelude.{◌≡◌, ℕ, ◌+◌, Bool, true, false, ◌||◌, ◌++◌, List}
use Rattle.line_text.specs.Line.{count_of}
use Rattle.line_text.specs.Connection.{Arrival}
use Rattle.line_text.specs.Reader.{closes, rest_after}
use Rattle.pickle_subset.specs.declared.reader.FrameEnd.{FrameEnd}
use Rattle.pickle_subset.specs.declared.reader.FrameEnd.TheVariants.{Open, FrameTooLong}
use Rattle.pickle_subset.specs.declared.frames.FoundFrames.{FoundFrames}
use Rattle.pickle_subset.specs.Frame.{reception, is_closed}
use Rattle.pickle_subset.specs.Accepted.{accepted_points, bad_pickles, bad_rows}

-- what is kept of a connection: what was received since its last frame, which is irrelevant once it is
-- closed
pub record ReaderModel : Type 0 where
  pub rest : List ℕ
  pub closed : Bool
  pub bad_pickles : ℕ
  pub bad_rows : ℕ

-- the reader keeps this of this connection
pub record Represents (s : ReaderModel) (c : List Arrival) : Type 0 where
  pub rest : is_closed c ≡ false → s.rest ≡ (reception c).partial
  pub closed : s.closed ≡ is_closed c
  pub bad_pickles : s.bad_pickles ≡ count_of (bad_pickles c)
  pub bad_rows : s.bad_rows ≡ count_of (bad_rows c)

-- a reader reads nothing more of the connection, whatever follows on it
pub record GivesNoMore (c : List Arrival) : Type 0 where
  pub closed : (more : List Arrival) → is_closed (c ++ more) ≡ true
  pub accepted_points : (more : List Arrival) → accepted_points (c ++ more) ≡ accepted_points c
  pub bad_pickles : (more : List Arrival) → bad_pickles (c ++ more) ≡ bad_pickles c
  pub bad_rows : (more : List Arrival) → bad_rows (c ++ more) ≡ bad_rows c

-- the answer to a piece says whether the connection is closed
abbrev pub is_too_long : FrameEnd → Bool
is_too_long Open = false
is_too_long FrameTooLong = true

-- ---- what a piece gives a reader to move on with

-- a reader that moved on with what was found
abbrev pub model_after : ReaderModel → FoundFrames → ReaderModel
model_after s found =
    record {
      rest = rest_after s.rest found.rest;
      closed = s.closed || closes found.rest;
      bad_pickles = count_of (s.bad_pickles + found.bad_pickles);
      bad_rows = count_of (s.bad_rows + found.bad_rows);
    }
