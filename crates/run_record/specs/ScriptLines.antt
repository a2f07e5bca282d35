-- The text of a script: a line for each reader, and then a line for each event.
use Rattle.std.specs.Prelude.{ℕ, List, ◌++◌, flat_map, codes, decimal}
use Rattle.hex.specs.Hex.{encode_lower}
use Rattle.reader_core.specs.declared.kind.ReaderKind.{ReaderKind}
use Rattle.reader_core.specs.declared.kind.ReaderKind.TheVariants as kind
use Rattle.relay_core.specs.World.{RunEvent, Piece, End, Offer, Take, Up, Wrote, Down}

-- ---- a reader

abbrev pub kind_word : ReaderKind → List ℕ
kind_word kind.Line = codes "line"
kind_word kind.Pickle = codes "pickle"
kind_word kind.Datagram = codes "datagram"

abbrev pub reader_words : ReaderKind → List ℕ
reader_words kind = codes "reader " ++ kind_word kind

abbrev pub reader_line : ReaderKind → List ℕ
reader_line kind = reader_words kind ++ codes "\n"

-- ---- an event

abbrev pub piece_words : ℕ → ℕ → List ℕ → List ℕ
piece_words reader moment bytes =
    codes "piece " ++ decimal reader ++ codes " " ++ decimal moment ++ codes " "
    ++ encode_lower bytes

abbrev pub event_words : RunEvent → List ℕ
event_words (Piece reader bytes moment) = piece_words reader moment bytes
event_words (End reader) = codes "end " ++ decimal reader
event_words (Offer reader) = codes "offer " ++ decimal reader
event_words (Take dest) = codes "take " ++ decimal dest
event_words (Up dest) = codes "up " ++ decimal dest
event_words (Wrote dest count) = codes "wrote " ++ decimal dest ++ codes " " ++ decimal count
event_words (Down dest) = codes "down " ++ decimal dest

abbrev pub event_line : RunEvent → List ℕ
event_line event = event_words event ++ codes "\n"

-- ---- all of them

abbrev pub reader_lines : List ReaderKind → List ℕ
reader_lines kinds = flat_map reader_line kinds

abbrev pub event_lines : List RunEvent → List ℕ
event_lines events = flat_map event_line events

abbrev pub script_text : List ReaderKind → List RunEvent → List ℕ
script_text kinds events = reader_lines kinds ++ event_lines events
