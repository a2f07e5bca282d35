-- What a line of a script says.
use Rattle.std.specs.Prelude.{ℕ, ◌==◌, List, [], ◌∷◌, Option, Some, None, option_map, option_and_then, if◌then◌else◌, codes}
use Rattle.std.specs.List.{slice_split}
use Rattle.reader_core.specs.declared.kind.ReaderKind.{ReaderKind}
use Rattle.reader_core.specs.declared.kind.ReaderKind.TheVariants as kind
use Rattle.relay_base.specs.Ascii.{number_sign, space}
use Rattle.relay_base.specs.White.{strip}
use Rattle.relay_core.specs.World.{RunEvent, Piece, End, Offer, Take, Up, Wrote, Down}
use Rattle.replay.specs.ScriptWords.{is_word, number, moment, hex_bytes}

-- a line is skipped, declares a reader, is an event, or is none of these
pub data Meaning : Type 0 where
  Skipped : Meaning
  Reader : ReaderKind → Meaning
  Event : RunEvent → Meaning
  Bad : Meaning

-- the words of a line: a space separates each two, and two spaces have an empty word between them
abbrev pub words_of : List ℕ → List (List ℕ)
words_of line = slice_split (λ b. b == space) line

-- ---- the words after the first

-- `line`, `pickle` or `datagram`
abbrev pub kind_named : List ℕ → Option ReaderKind
kind_named word =
    if is_word word (codes "line") then Some kind.Line
    else (if is_word word (codes "pickle") then Some kind.Pickle
    else (if is_word word (codes "datagram") then Some kind.Datagram else None))

-- what a single word says
abbrev pub single_word : {X : Type 0} → (List ℕ → Option X) → List (List ℕ) → Option X
single_word says (word ∷ []) = says word
single_word says others = None

-- `R`, or `D`
abbrev pub event_of_number : (ℕ → RunEvent) → List ℕ → Option RunEvent
event_of_number event word = option_map event (number word)

-- `D N`
abbrev pub write_of : List (List ℕ) → Option RunEvent
write_of (dest ∷ count ∷ []) =
    option_and_then (λ d. option_map (λ n. Wrote d n) (number count)) (number dest)
write_of others = None

-- `R MOMENT HEX`
abbrev pub piece_of : List (List ℕ) → Option RunEvent
piece_of (reader ∷ seconds ∷ digits ∷ []) = option_and_then
    (λ r. option_and_then
    (λ at. option_map (λ bytes. Piece r bytes at) (hex_bytes digits))
    (moment seconds))
    (number reader)
piece_of others = None

-- ---- a whole line

-- the event that a first word names, with the words after it
abbrev pub event_of : List ℕ → List (List ℕ) → Option RunEvent
event_of word others =
    if is_word word (codes "piece") then piece_of others
    else (if is_word word (codes "end") then single_word (event_of_number (λ r. End r)) others
    else (if is_word word (codes "offer") then single_word (event_of_number (λ r. Offer r)) others
    else (if is_word word (codes "take") then single_word (event_of_number (λ d. Take d)) others
    else (if is_word word (codes "up") then single_word (event_of_number (λ d. Up d)) others
    else (if is_word word (codes "wrote") then write_of others
    else (if is_word word (codes "down") then single_word (event_of_number (λ d. Down d)) others
    else None))))))

abbrev pub reader_or_bad : Option ReaderKind → Meaning
reader_or_bad None = Bad
reader_or_bad (Some kind) = Reader kind

abbrev pub event_or_bad : Option RunEvent → Meaning
event_or_bad None = Bad
event_or_bad (Some event) = Event event

-- what words say
abbrev pub meaning_of_words : List (List ℕ) → Meaning
meaning_of_words [] = Bad
meaning_of_words (word ∷ others) =
    if is_word word (codes "reader") then reader_or_bad (single_word kind_named others)
    else event_or_bad (event_of word others)

-- a line without white space at its ends: empty, or one that begins with `#`, or any other
abbrev pub meaning_of_stripped : List ℕ → Meaning
meaning_of_stripped [] = Skipped
meaning_of_stripped (b ∷ bs) =
    if b == number_sign then Skipped else meaning_of_words (words_of (b ∷ bs))

-- what a line says
unfoldable pub meaning_of : List ℕ → Meaning
meaning_of line = meaning_of_stripped (strip line)
