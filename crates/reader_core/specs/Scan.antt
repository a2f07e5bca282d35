-- What is kept of the current connection, and what a piece makes of it.
use Rattle.std.specs.Prelude.{ℕ, Bool, true, false, if◌then◌else◌, List, [], ◌++◌}
use Rattle.line_text.specs.Datapoint.{Datapoint}
use Rattle.line_text.specs.Reader as lines
use Rattle.line_text.specs.Reader.{GainsAlike, CountsMore}
use Rattle.pickle_subset.specs.Reader as pickles
use Rattle.reader_core.specs.Input.{Stream, has_connections}
use Rattle.reader_core.specs.Kinds.{points_in, bad_lines_in, bad_pickles_in, bad_rows_in}
use Rattle.reader_counts.specs.declared.counts.ReaderCounts.{ReaderCounts}
use Rattle.reader_core.specs.declared.fault.ReaderEnd.{ReaderEnd}
use Rattle.reader_core.specs.declared.fault.ReaderEnd.TheVariants.{Open, TooLong}
use Rattle.reader_core.specs.declared.kind.ReaderKind.{ReaderKind}
use Rattle.reader_core.specs.declared.kind.ReaderKind.TheVariants.{Line, Pickle, Datagram}
use Rattle.reader_core.specs.declared.scan.Scan.{Scan}
use Rattle.reader_core.specs.declared.scan.Scan.TheVariants.{Lines, Pickles, Datagrams}
use Rattle.reader_core.specs.declared.scan.FoundInPiece.{FoundInPiece}
use Rattle.reader_core.specs.declared.scan.FoundInPiece.TheVariants.{InLines, InFrames, InDatagram}

abbrev pub kind_of : Scan → ReaderKind
kind_of (Lines reader) = Line
kind_of (Pickles reader) = Pickle
kind_of Datagrams = Datagram

-- whether nothing more of the connection is read
abbrev pub is_closed : Scan → Bool
is_closed (Lines reader) = reader.closed
is_closed (Pickles reader) = reader.closed
is_closed Datagrams = false

-- the bytes that are kept of a connection: those behind its last whole line or frame; irrelevant once it is closed
abbrev pub rest_of : Scan → List ℕ
rest_of (Lines reader) = reader.rest
rest_of (Pickles reader) = reader.rest
rest_of Datagrams = []

-- the reader keeps this of this connection
abbrev pub Keeps : Scan → Stream → Type 0
Keeps (Lines reader) connection = lines.Represents reader connection
Keeps (Pickles reader) connection = pickles.Represents reader connection
Keeps Datagrams connection = Unit {0}

-- the answer to a piece says whether the connection is closed
abbrev pub is_too_long : ReaderEnd → Bool
is_too_long Open = false
is_too_long TooLong = true

-- ---- what a piece gives

-- it was found by a reader of this kind
abbrev pub fits : Scan → FoundInPiece → Bool
fits (Lines reader) (InLines found) = true
fits (Pickles reader) (InFrames found) = true
fits Datagrams found = true
fits scan found = false

-- what is kept after the piece
abbrev pub scan_after : Scan → FoundInPiece → Scan
scan_after (Lines reader) (InLines found) = Lines (lines.model_after reader found)
scan_after (Pickles reader) (InFrames found) = Pickles (pickles.model_after reader found)
scan_after scan found = scan

-- what was wrong with the piece
abbrev pub counts_found : FoundInPiece → ℕ → ReaderCounts
counts_found (InLines found) bad_names =
    record { bad_lines = found.bad_lines; bad_pickles = 0; bad_rows = 0; bad_names = bad_names }
counts_found (InFrames found) bad_names =
    record {
      bad_lines = 0;
      bad_pickles = found.bad_pickles;
      bad_rows = found.bad_rows;
      bad_names = bad_names;
    }
counts_found (InDatagram bad_lines) bad_names =
    record { bad_lines = bad_lines; bad_pickles = 0; bad_rows = 0; bad_names = bad_names }

-- what a piece continues: the connection so far, or nothing if it is a datagram
abbrev pub gone_on : ReaderKind → Stream → Stream
gone_on kind connection = if has_connections kind then connection else []

-- the counts of what is wrong after and was not wrong before
pub record CountsFaults (kind : ReaderKind) (counts : ReaderCounts)
    (before after : Stream) : Type 0 where
  pub bad_lines : CountsMore counts.bad_lines (bad_lines_in kind before) (bad_lines_in kind after)
  pub bad_pickles : CountsMore counts.bad_pickles (bad_pickles_in kind before)
      (bad_pickles_in kind after)
  pub bad_rows : CountsMore counts.bad_rows (bad_rows_in kind before) (bad_rows_in kind after)

-- what was found is what the piece adds to what it continues
pub record PieceFound (scan : Scan) (before piece : Stream) (old new : List Datapoint)
    (found : FoundInPiece) : Type 0 where
  pub keeps : Keeps (scan_after scan found) (before ++ piece)
  pub points : GainsAlike old new (points_in (kind_of scan) before)
      (points_in (kind_of scan) (before ++ piece))
  pub counts : CountsFaults (kind_of scan) (counts_found found 0) before (before ++ piece)
