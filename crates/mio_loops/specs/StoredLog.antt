-- What the fields of an `InputLog` mean, and what holds of them.
use Rattle.std.specs.Prelude.{ℕ, ◌≡◌, ◌≤◌, ◌+◌, Bool, false, List, [], ◌∷◌, length, take, drop, Option, Some, None}
use Rattle.reader_core.specs.Entries.{InputEntry, Piece, End, LoggedEntry}
use Rattle.mio_loops.specs.InputLog.{most_entries, most_bytes}
use Rattle.mio_loops.specs.declared.log_entry.LogRow.{LogRow}
use Rattle.mio_loops.specs.declared.log_entry.LogEntry.{LogEntry}
use Rattle.mio_loops.specs.declared.log_entry.LogInput.{LogInput}
use Rattle.mio_loops.specs.declared.log_entry.LogInput.TheVariants as input

-- a piece has a moment, and an end none
abbrev pub entry_of : Option ℕ → List ℕ → InputEntry
entry_of (Some moment) bytes = Piece bytes moment
entry_of None bytes = End

-- the entries, whose bytes follow each other, piece by piece
abbrev pub entries_in : List LogRow → List ℕ → List LoggedEntry
entries_in [] bytes = []
entries_in (row ∷ rows) bytes =
    record { reader = row.reader; entry = entry_of row.moment (take row.length bytes) }
    ∷ entries_in rows (drop row.length bytes)

-- how many bytes they have
abbrev pub bytes_in : List LogRow → ℕ
bytes_in [] = 0
bytes_in (row ∷ rows) = row.length + bytes_in rows

pub record IsSoundLog (rows : List LogRow) (row_room : ℕ) (bytes : List ℕ) (byte_room : ℕ)
    (sealed : Bool) : Type 0 where
  -- the rows' bytes are all bytes
  pub total : bytes_in rows ≡ length bytes
  pub few : length bytes ≤ most_bytes
  -- the room for all is there from the start, unless nothing is kept
  pub rows_fit : sealed ≡ false → most_entries ≤ row_room
  pub bytes_fit : sealed ≡ false → most_bytes ≤ byte_room

-- ---- an entry that is lent

abbrev pub input_of : LogInput → InputEntry
input_of (input.Piece bytes moment) = Piece bytes.now moment
input_of input.End = End

abbrev pub logged_of : LogEntry → LoggedEntry
logged_of e = record { reader = e.reader; entry = input_of e.input }
