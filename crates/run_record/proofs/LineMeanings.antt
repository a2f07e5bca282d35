-- What the lines of a script's text say.
use Rattle.std.proofs.Common.{◌≡◌, ℕ, Bool, true, List, [], ◌∷◌, ◌++◌, Option, Some, codes, refl, ap, ◌∙◌, arith, append_assoc}
use Rattle.std.specs.Option.{option_and_then}
use Rattle.std.specs.Prelude.{option_map, nat_le}
use Rattle.std.specs.Fmt.{decimal}
use Rattle.std.specs.List.{list_all, slice_split}
use Rattle.std.proofs.lemmas.Bool.{and_from, ltb-true, le-leb}
use Rattle.std.proofs.lemmas.List.Folds.{list_all-append}
use Rattle.hex.specs.Hex.{encode_lower}
use Rattle.reader_core.specs.declared.kind.ReaderKind.{ReaderKind}
use Rattle.reader_core.specs.declared.kind.ReaderKind.TheVariants as kind
use Rattle.relay_core.specs.World.{RunEvent, Piece, End, Offer, Take, Up, Wrote, Down}
use Rattle.replay.specs.ScriptLine.{Reader, Event, meaning_of, meaning_of_words, meaning_of_stripped, event_or_bad, piece_of}
use Rattle.replay.specs.ScriptWords.{number}
use Rattle.run_record.specs.Laws.{IsShort, IsPiece, IsWritable}
use Rattle.run_record.specs.ScriptLines.{reader_words, piece_words, event_words}
use Rattle.run_record.proofs.Words.{IsWord, is_space, is_past_space, list_all-weaker, words-one, words-then, strip-same, decimal-is_word, number-decimal, moment-decimal, hex-is_word, hex_bytes-encode}

pub reader-meaning : (kind : ReaderKind) → meaning_of (reader_words kind) ≡ Reader kind
unfolding meaning_of
reader-meaning kind.Line = refl
reader-meaning kind.Pickle = refl
reader-meaning kind.Datagram = refl

-- a line of two words, the second a number
end-meaning : (n : ℕ) → IsShort n → meaning_of (codes "end " ++ decimal n) ≡ Event (End n)
unfolding meaning_of
end-meaning n short =
    ap meaning_of_stripped (strip-same (codes "end ") (decimal n) (decimal-is_word n short) refl)
    ∙ ap (λ (words : List (List ℕ)). meaning_of_words (codes "end" ∷ words)) (words-one (decimal n) (decimal-is_word n short))
    ∙ ap (λ (o : Option ℕ). event_or_bad (option_map (λ r. End r) o)) (number-decimal n short)

offer-meaning : (n : ℕ) → IsShort n → meaning_of (codes "offer " ++ decimal n) ≡ Event (Offer n)
unfolding meaning_of
offer-meaning n short =
    ap meaning_of_stripped (strip-same (codes "offer ") (decimal n) (decimal-is_word n short) refl)
    ∙ ap (λ (words : List (List ℕ)). meaning_of_words (codes "offer" ∷ words)) (words-one (decimal n) (decimal-is_word n short))
    ∙ ap (λ (o : Option ℕ). event_or_bad (option_map (λ r. Offer r) o)) (number-decimal n short)

take-meaning : (n : ℕ) → IsShort n → meaning_of (codes "take " ++ decimal n) ≡ Event (Take n)
unfolding meaning_of
take-meaning n short =
    ap meaning_of_stripped (strip-same (codes "take ") (decimal n) (decimal-is_word n short) refl)
    ∙ ap (λ (words : List (List ℕ)). meaning_of_words (codes "take" ∷ words)) (words-one (decimal n) (decimal-is_word n short))
    ∙ ap (λ (o : Option ℕ). event_or_bad (option_map (λ d. Take d) o)) (number-decimal n short)

up-meaning : (n : ℕ) → IsShort n → meaning_of (codes "up " ++ decimal n) ≡ Event (Up n)
unfolding meaning_of
up-meaning n short =
    ap meaning_of_stripped (strip-same (codes "up ") (decimal n) (decimal-is_word n short) refl)
    ∙ ap (λ (words : List (List ℕ)). meaning_of_words (codes "up" ∷ words)) (words-one (decimal n) (decimal-is_word n short))
    ∙ ap (λ (o : Option ℕ). event_or_bad (option_map (λ d. Up d) o)) (number-decimal n short)

down-meaning : (n : ℕ) → IsShort n → meaning_of (codes "down " ++ decimal n) ≡ Event (Down n)
unfolding meaning_of
down-meaning n short =
    ap meaning_of_stripped (strip-same (codes "down ") (decimal n) (decimal-is_word n short) refl)
    ∙ ap (λ (words : List (List ℕ)). meaning_of_words (codes "down" ∷ words)) (words-one (decimal n) (decimal-is_word n short))
    ∙ ap (λ (o : Option ℕ). event_or_bad (option_map (λ d. Down d) o)) (number-decimal n short)

-- a line of three words
wrote-meaning : (d n : ℕ) → IsShort d → IsShort n → meaning_of (codes "wrote " ++ decimal d ++ codes " " ++ decimal n) ≡ Event (Wrote d n)
unfolding meaning_of
wrote-meaning d n short_dest short_count =
    let dest = decimal d in
    let count = decimal n in
    let words : slice_split is_space (dest ++ 32 ∷ count) ≡ dest ∷ count ∷ [] =
    words-then dest count (decimal-is_word d short_dest) ∙ ap (λ (ws : List (List ℕ)). dest ∷ ws) (words-one count (decimal-is_word n short_count)) in
    ap meaning_of_stripped (strip-same (codes "wrote " ++ dest ++ codes " ") count (decimal-is_word n short_count) refl
    ∙ append_assoc (codes "wrote " ++ dest) (codes " ") count ∙ append_assoc (codes "wrote ") dest (32 ∷ count))
    ∙ ap (λ (ws : List (List ℕ)). meaning_of_words (codes "wrote" ∷ ws)) words
    ∙ ap (λ (o : Option ℕ). event_or_bad (option_and_then (λ e. option_map (λ c. Wrote e c) (number count)) o)) (number-decimal d short_dest)
    ∙ ap (λ (o : Option ℕ). event_or_bad (option_map (λ c. Wrote d c) o)) (number-decimal n short_count)

-- a line of four words
module _ (r m : ℕ) (bytes : List ℕ) (is : IsPiece r bytes m) where
  reader_word : IsWord (decimal r)
  reader_word = decimal-is_word r is.short

  moment_word : IsWord (decimal m)
  moment_word = decimal-is_word m (omega (arith, is.in_time))

  hex_word : IsWord (encode_lower bytes)
  hex_word = hex-is_word bytes is.some is.are_bytes

  piece_split : slice_split is_space (decimal r ++ 32 ∷ (decimal m ++ 32 ∷ encode_lower bytes)) ≡ decimal r ∷ decimal m ∷ encode_lower bytes ∷ []
  piece_split =
      words-then (decimal r) (decimal m ++ 32 ∷ encode_lower bytes) reader_word
      ∙ ap (λ (ws : List (List ℕ)). decimal r ∷ ws) (words-then (decimal m) (encode_lower bytes) moment_word
      ∙ ap (λ (ws : List (List ℕ)). decimal m ∷ ws) (words-one (encode_lower bytes) hex_word))

  piece_read : piece_of (decimal r ∷ decimal m ∷ encode_lower bytes ∷ []) ≡ Some (Piece r bytes m)
  piece_read = rw (number-decimal r is.short, moment-decimal m is.in_time, hex_bytes-encode bytes is.some is.are_bytes) refl

  regroup : piece_words r m bytes ≡ codes "piece " ++ (decimal r ++ 32 ∷ (decimal m ++ 32 ∷ encode_lower bytes))
  regroup =
      append_assoc (codes "piece " ++ decimal r ++ codes " " ++ decimal m) (codes " ") (encode_lower bytes)
      ∙ append_assoc (codes "piece " ++ decimal r ++ codes " ") (decimal m) (32 ∷ encode_lower bytes)
      ∙ append_assoc (codes "piece " ++ decimal r) (codes " ") (decimal m ++ 32 ∷ encode_lower bytes)
      ∙ append_assoc (codes "piece ") (decimal r) (32 ∷ (decimal m ++ 32 ∷ encode_lower bytes))

  piece-meaning : meaning_of (piece_words r m bytes) ≡ Event (Piece r bytes m)
  unfolding meaning_of
  piece-meaning =
      ap meaning_of_stripped (strip-same (codes "piece " ++ decimal r ++ codes " " ++ decimal m ++ codes " ") (encode_lower bytes) hex_word refl ∙ regroup)
      ∙ ap (λ (ws : List (List ℕ)). meaning_of_words (codes "piece" ∷ ws)) piece_split
      ∙ ap event_or_bad piece_read

pub event-meaning : (event : RunEvent) → IsWritable event → meaning_of (event_words event) ≡ Event event
event-meaning (Piece r bytes m) is = piece-meaning r m bytes is
event-meaning (End r) is = end-meaning r is
event-meaning (Offer r) is = offer-meaning r is
event-meaning (Take d) is = take-meaning d is
event-meaning (Up d) is = up-meaning d is
event-meaning (Wrote d n) is = wrote-meaning d n is.0 is.1
event-meaning (Down d) is = down-meaning d is

-- ---- a line has no newline within

abbrev pub is_printed : ℕ → Bool
is_printed b = nat_le 32 b

-- every byte is a space or past it
abbrev pub IsLine : List ℕ → Type 0
IsLine text = list_all is_printed text ≡ true

past_is_printed : (b : ℕ) → is_past_space b ≡ true → is_printed b ≡ true
past_is_printed b past = le-leb 32 b (omega (arith, ltb-true 32 b past))

word-is_line : (text : List ℕ) → IsWord text → IsLine text
word-is_line text word = list_all-weaker is_past_space is_printed past_is_printed text word.past

joined : (a b : List ℕ) → IsLine a → IsLine b → IsLine (a ++ b)
joined a b first second = list_all-append is_printed a b ∙ and_from _ _ first second

number-is_line : (n : ℕ) → IsShort n → IsLine (decimal n)
number-is_line n short = word-is_line (decimal n) (decimal-is_word n short)

pub reader-is_line : (kind : ReaderKind) → IsLine (reader_words kind)
reader-is_line kind.Line = refl
reader-is_line kind.Pickle = refl
reader-is_line kind.Datagram = refl

pub event-is_line : (event : RunEvent) → IsWritable event → IsLine (event_words event)
event-is_line (Piece r bytes m) is =
    joined (codes "piece " ++ decimal r ++ codes " " ++ decimal m ++ codes " ") (encode_lower bytes)
    (joined (codes "piece " ++ decimal r ++ codes " " ++ decimal m) (codes " ")
    (joined (codes "piece " ++ decimal r ++ codes " ") (decimal m)
    (joined (codes "piece " ++ decimal r) (codes " ")
    (joined (codes "piece ") (decimal r) refl (number-is_line r is.short)) refl)
    (number-is_line m (omega (arith, is.in_time)))) refl)
    (word-is_line (encode_lower bytes) (hex-is_word bytes is.some is.are_bytes))
event-is_line (End r) is = joined (codes "end ") (decimal r) refl (number-is_line r is)
event-is_line (Offer r) is = joined (codes "offer ") (decimal r) refl (number-is_line r is)
event-is_line (Take d) is = joined (codes "take ") (decimal d) refl (number-is_line d is)
event-is_line (Up d) is = joined (codes "up ") (decimal d) refl (number-is_line d is)
event-is_line (Wrote d n) is =
    joined (codes "wrote " ++ decimal d ++ codes " ") (decimal n)
    (joined (codes "wrote " ++ decimal d) (codes " ") (joined (codes "wrote ") (decimal d) refl (number-is_line d is.0)) refl)
    (number-is_line n is.1)
event-is_line (Down d) is = joined (codes "down ") (decimal d) refl (number-is_line d is)
