-- What readers were fed, entry by entry, as a log keeps it.
use Rattle.std.specs.Prelude.{ℕ, ◌==◌, if◌then◌else◌, List, [], ◌∷◌, ◌++◌}
use Rattle.line_text.specs.Connection.{arrivals}
use Rattle.reader_core.specs.Input.{Stream, input_after_piece, input_after_end}
use Rattle.reader_core.specs.declared.kind.ReaderKind.{ReaderKind}

pub data InputEntry : Type 0 where
  -- a piece of a connection, or a datagram, with its moment
  Piece : (bytes : List ℕ) (moment : ℕ) → InputEntry
  -- the connection ended
  End : InputEntry

-- the input with what an entry says
abbrev pub input_after_entry : ReaderKind → InputEntry → List Stream → List Stream
input_after_entry kind (Piece bytes moment) input =
    input_after_piece kind (arrivals bytes moment) input
input_after_entry kind End input = input_after_end kind input

-- one entry after another
abbrev pub input_after_entries : ReaderKind → List InputEntry → List Stream → List Stream
input_after_entries kind [] input = input
input_after_entries kind (entry ∷ entries) input =
    input_after_entries kind entries (input_after_entry kind entry input)

-- the bytes of the pieces
abbrev pub bytes_of_entries : List InputEntry → List ℕ
bytes_of_entries [] = []
bytes_of_entries (Piece bytes moment ∷ entries) = bytes ++ bytes_of_entries entries
bytes_of_entries (End ∷ entries) = bytes_of_entries entries

-- an entry of a log that several readers share
pub record LoggedEntry : Type 0 where
  pub reader : ℕ
  pub entry : InputEntry

-- the entries of one reader, in order
abbrev pub entries_of : ℕ → List LoggedEntry → List InputEntry
entries_of r [] = []
entries_of r (logged ∷ log) =
    if logged.reader == r then logged.entry ∷ entries_of r log else entries_of r log
