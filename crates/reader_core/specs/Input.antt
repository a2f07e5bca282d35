-- What a reader was fed: connections of bytes, or datagrams.
use Rattle.std.specs.Prelude.{Bool, true, false, if◌then◌else◌, List, [], ◌∷◌, ◌++◌}
use Rattle.line_text.specs.Connection.{Arrival}
use Rattle.reader_core.specs.declared.kind.ReaderKind.{ReaderKind}
use Rattle.reader_core.specs.declared.kind.ReaderKind.TheVariants.{Line, Pickle, Datagram}

-- the bytes of a connection, or of a datagram, each with the moment of its piece
abbrev pub Stream : Type 0
Stream = List Arrival

-- a line or pickle reader is fed connections, and a datagram reader datagrams
abbrev pub has_connections : ReaderKind → Bool
has_connections Line = true
has_connections Pickle = true
has_connections Datagram = false

-- the last connection continues
abbrev pub with_more : Stream → List Stream → List Stream
with_more piece [] = piece ∷ []
with_more piece (last ∷ []) = (last ++ piece) ∷ []
with_more piece (first ∷ second ∷ others) = first ∷ with_more piece (second ∷ others)

-- the current connection
abbrev pub current : List Stream → Stream
current [] = []
current (last ∷ []) = last
current (first ∷ second ∷ others) = current (second ∷ others)

-- at first one connection without bytes, or no datagram
abbrev pub fresh_input : ReaderKind → List Stream
fresh_input kind = if has_connections kind then [] ∷ [] else []

-- with one more piece: a connection continues, and a datagram is by itself
abbrev pub input_after_piece : ReaderKind → Stream → List Stream → List Stream
input_after_piece kind piece input =
    if has_connections kind then with_more piece input else input ++ piece ∷ []

-- when the connection ends, a new one begins; datagrams do not change
abbrev pub input_after_end : ReaderKind → List Stream → List Stream
input_after_end kind input = if has_connections kind then input ++ [] ∷ [] else input
