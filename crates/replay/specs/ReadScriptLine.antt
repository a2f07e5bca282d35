-- A line as the code holds and reads it: cut at its first space, and the rest again.
use Rattle.std.specs.Prelude.{ℕ, ◌+◌, ◌==◌, List, take, drop, position, Option, Some, None, option_map, option_and_then, if◌then◌else◌, codes}
use Rattle.relay_base.specs.Ascii.{space}
use Rattle.relay_core.specs.World.{RunEvent, Piece, End, Offer, Take, Up, Wrote, Down}
use Rattle.replay.specs.declared.script_line.PieceText.{PieceText}
use Rattle.replay.specs.declared.script_line.Line.{Line}
use Rattle.replay.specs.declared.script_line.Line.TheVariants as line
use Rattle.replay.specs.ScriptEvent.{event_seen}
use Rattle.replay.specs.ScriptLine.{Meaning, Skipped, Reader, Event, Bad, kind_named, event_of_number, reader_or_bad, event_or_bad}
use Rattle.replay.specs.ScriptWords.{is_word, number, moment, hex_bytes}

-- what a line says, without where its bytes lie in memory
abbrev pub meaning_seen : Line → Meaning
meaning_seen line.Skipped = Skipped
meaning_seen (line.Reader kind) = Reader kind
meaning_seen (line.Event event) = Event (event_seen event)
meaning_seen line.Bad = Bad

-- a text that a space cuts, before and after its first space
pub record Cut : Type 0 where
  pub word : List ℕ
  pub rest : List ℕ

abbrev pub cut_of : List ℕ → Option Cut
cut_of text = option_map
    (λ i. record { word = take i text; rest = drop (i + 1) text })
    (position (λ b. b == space) text)

-- `D N`
abbrev pub write_in : List ℕ → Option RunEvent
write_in text = option_and_then
    (λ cut. option_and_then
    (λ dest. option_map (λ count. Wrote dest count) (number cut.rest))
    (number cut.word))
    (cut_of text)

-- a piece as its line writes it
pub record PieceWords : Type 0 where
  pub reader : ℕ
  pub moment : ℕ
  pub digits : List ℕ

abbrev pub piece_seen : PieceText → PieceWords
piece_seen p = record { reader = p.reader; moment = p.moment; digits = p.digits.now }

-- `MOMENT HEX`, of a piece for this reader
abbrev pub piece_for : ℕ → List ℕ → Option PieceWords
piece_for reader text = option_and_then
    (λ cut. option_map
    (λ at. record { reader = reader; moment = at; digits = cut.rest })
    (moment cut.word))
    (cut_of text)

-- `R MOMENT HEX`
abbrev pub piece_text : List ℕ → Option PieceWords
piece_text text = option_and_then
    (λ cut. option_and_then (λ reader. piece_for reader cut.rest) (number cut.word))
    (cut_of text)

-- the same, with the bytes that the digits write
abbrev pub piece_in : List ℕ → Option RunEvent
piece_in text = option_and_then
    (λ piece. option_map (λ bytes. Piece piece.reader bytes piece.moment) (hex_bytes piece.digits))
    (piece_text text)

-- the event that a first word names, and what follows it
abbrev pub event_named : List ℕ → List ℕ → Option RunEvent
event_named word rest =
    if is_word word (codes "piece") then piece_in rest
    else (if is_word word (codes "end") then event_of_number (λ r. End r) rest
    else (if is_word word (codes "offer") then event_of_number (λ r. Offer r) rest
    else (if is_word word (codes "take") then event_of_number (λ d. Take d) rest
    else (if is_word word (codes "up") then event_of_number (λ d. Up d) rest
    else (if is_word word (codes "wrote") then write_in rest
    else (if is_word word (codes "down") then event_of_number (λ d. Down d) rest
    else None))))))

-- a reader's kind, or an event, after the first word
abbrev pub meaning_named : List ℕ → List ℕ → Meaning
meaning_named word rest =
    if is_word word (codes "reader") then reader_or_bad (kind_named rest)
    else event_or_bad (event_named word rest)

abbrev pub meaning_of_cut : Option Cut → Meaning
meaning_of_cut None = Bad
meaning_of_cut (Some cut) = meaning_named cut.word cut.rest
