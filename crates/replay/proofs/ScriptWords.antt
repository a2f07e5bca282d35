-- The words of a line are those that cutting it at its first space, and the rest again, gives.
use Rattle.std.proofs.Common.{◌≡◌, ℕ, suc, ◌+◌, ◌-◌, ◌≤◌, Bool, true, false, not, ◌&&◌, ◌==◌, nat_lt, cond, List, [], ◌∷◌, ◌++◌, take, drop, length, Option, Some, None, option_map, codes, refl, sym, ap, ◌∙◌, subst, arith}
use Rattle.std.proofs.lemmas.Slice.Eq.{bytes_eq-Decides}
use Rattle.std.specs.Option.{option_and_then}
use Rattle.std.specs.Char.{is_ascii_digit}
use Rattle.std.specs.List.{list_all, position_or_len, join_with_byte}
use Rattle.std.proofs.Math.Bool.{and-false}
use Rattle.std.proofs.lemmas.Bool.Decides.{nat_tests}
use Rattle.std.proofs.lemmas.List.Elements.{All-from_get_or}
use Rattle.std.proofs.lemmas.List.Splits.{slice_split_first, slice_split_none, length-slice_split, join_with_byte-slice_split}
use Rattle.std.proofs.lemmas.List.Sums.{fails_before_first}
use Rattle.relay_core.specs.World.{RunEvent, Piece, End, Offer, Take, Up, Wrote, Down}
use Rattle.std.proofs.lemmas.Bool.{false≢true, false_from_ne_true, eqb-true}
use Rattle.replay.specs.ScriptLine.{Bad, Skipped, meaning_of_stripped, words_of, kind_named, single_word, event_of_number, write_of, piece_of, event_of, meaning_of_words, reader_or_bad, event_or_bad}
use Rattle.replay.specs.ReadScriptLine.{Cut, cut_of, write_in, PieceWords, piece_for, piece_in, event_named, meaning_named, meaning_of_cut}
use Rattle.replay.specs.ScriptWords.{number, moment, is_hex_digit, hex_bytes, is_word}

-- ---- a text and its first space

abbrev is_space : ℕ → Bool
is_space b = b == 32

abbrev first_space : List ℕ → ℕ
first_space text = position_or_len is_space text

one_word : (text : List ℕ) → length text ≤ first_space text → words_of text ≡ text ∷ []
one_word text le =
    slice_split_none is_space text (All-from_get_or (λ b. is_space b ≡ false) text 0 (λ i lt. fails_before_first is_space text i 0 (omega arith)))

-- what holds of a text without a space and of one with a space holds of all
cut_cases : (P : Option Cut → List (List ℕ) → Type 0) (text : List ℕ) → P None (text ∷ []) → ((word rest : List ℕ) → P (Some (record { word = word; rest = rest })) (word ∷ words_of rest)) → P (cut_of text) (words_of text)
cut_cases P text none some =
    let i = first_space text in
    let cut : Cut = record { word = take i text; rest = drop (i + 1) text } in
    let found : (b : Bool) → b ≡ nat_lt i (length text) → P (option_map (λ (j : ℕ). record { word = take j text; rest = drop (j + 1) text }) (cond b (Some i) None)) (words_of text) = λ b. elim b as (λ (b : Bool). b ≡ nat_lt i (length text) → P (option_map (λ (j : ℕ). record { word = take j text; rest = drop (j + 1) text }) (cond b (Some i) None)) (words_of text)) [
      | true ↦ λ e. subst (P (Some cut)) (sym (slice_split_first is_space text 0 (grind (arith, nat_tests)))) (some cut.word cut.rest)
      | false ↦ λ e. subst (P None) (sym (one_word text (grind (arith, nat_tests)))) none
    ] in
    found (nat_lt i (length text)) refl

-- ---- a text with a space is no word

-- a text that fits no test that a space fails
fails_at_space : (p : ℕ → Bool) (word rest : List ℕ) → p 32 ≡ false → list_all p (word ++ 32 ∷ rest) ≡ false
fails_at_space p [] rest h = ap (λ (b : Bool). b && list_all p rest) h
fails_at_space p (b ∷ word) rest h = ap (λ (c : Bool). p b && c) (fails_at_space p word rest h) ∙ and-false (p b)

-- a text with a space is nothing that `says` reads
abbrev pub IsWordAlone : {X : Type 0} → (List ℕ → Option X) → Type 0
IsWordAlone says = (word rest : List ℕ) → says (word ++ 32 ∷ rest) ≡ None

-- the words of a text are one or more, and it is these with a space between each two
module _ {X : Type 0} (says : List ℕ → Option X) (word_alone : IsWordAlone says) (text : List ℕ) where
  by_words : (words : List (List ℕ)) → length words ≡ suc (length words - 1) → join_with_byte 32 words ≡ text → single_word says words ≡ says text
  by_words [] some joined = absurd (omega arith)
  by_words (word ∷ []) some joined = ap says joined
  by_words (word ∷ second ∷ others) some joined = sym (word_alone word (join_with_byte 32 (second ∷ others))) ∙ ap says joined

  pub single_word-is : single_word says (words_of text) ≡ says text
  single_word-is = by_words (words_of text) (omega (arith, length-slice_split is_space text)) (join_with_byte-slice_split 32 text)

same_of_both : {A : Type 0} (b : Bool) (x : A) → cond b x x ≡ x
same_of_both true x = refl
same_of_both false x = refl

number_alone : IsWordAlone number
number_alone word rest =
    let none : list_all is_ascii_digit (word ++ 32 ∷ rest) ≡ false = fails_at_space is_ascii_digit word rest refl in
    rw (none, and-false) (same_of_both _ None)

hex_alone : IsWordAlone hex_bytes
hex_alone word rest =
    let none : list_all is_hex_digit (word ++ 32 ∷ rest) ≡ false = fails_at_space is_hex_digit word rest refl in
    rw (none, and-false) refl

abbrev is_no_space : ℕ → Bool
is_no_space b = not (is_space b)

-- it is no word without a space
other_word : (known word rest : List ℕ) → list_all is_no_space known ≡ true → is_word (word ++ 32 ∷ rest) known ≡ false
other_word known word rest whole =
    let P : Bool → Type 0 = λ b. b ≡ is_word (word ++ 32 ∷ rest) known → b ≡ false in
    let same : P true = λ e.
    let known_is : word ++ 32 ∷ rest ≡ known = (bytes_eq-Decides (word ++ 32 ∷ rest) known).0 (sym e) in
    let cut : list_all is_no_space (word ++ 32 ∷ rest) ≡ false = fails_at_space is_no_space word rest refl in
    let both : true ≡ false = sym whole ∙ ap (list_all is_no_space) (sym known_is) ∙ cut in
    cc in
    (elim (is_word (word ++ 32 ∷ rest) known) as P [ true ↦ same | false ↦ λ e. refl ]) refl

kind_alone : IsWordAlone kind_named
kind_alone word rest =
    rw (other_word (codes "line") word rest refl, other_word (codes "pickle") word rest refl, other_word (codes "datagram") word rest refl) refl

-- ---- what the words say

and_then_none : {A B : Type 0} (o : Option A) → option_and_then {T = A} {U = B} (λ x. None) o ≡ None
and_then_none None = refl
and_then_none (Some x) = refl

single_word-number : (event : ℕ → RunEvent) → IsWordAlone (event_of_number event)
single_word-number event word rest = ap (option_map event) (number_alone word rest)

-- a number, and then words
then_number : (word : List ℕ) (others : List (List ℕ)) → write_of (word ∷ others) ≡ option_and_then (λ d. single_word (event_of_number (λ n. Wrote d n)) others) (number word)
then_number word [] = sym (and_then_none (number word))
then_number word (count ∷ []) = refl
then_number word (count ∷ third ∷ others) = sym (and_then_none (number word))

write_at : (o : Option ℕ) (rest : List ℕ) → option_and_then (λ d. event_of_number (λ n. Wrote d n) rest) o ≡ option_and_then (λ d. single_word (event_of_number (λ n. Wrote d n)) (words_of rest)) o
write_at None rest = refl
write_at (Some d) rest = sym (single_word-is (event_of_number (λ n. Wrote d n)) (single_word-number (λ n. Wrote d n)) rest)

write-is : (text : List ℕ) → write_in text ≡ write_of (words_of text)
write-is text =
    let F : Cut → Option RunEvent = λ cut. option_and_then (λ d. event_of_number (λ n. Wrote d n) cut.rest) (number cut.word) in
    cut_cases (λ o words. option_and_then F o ≡ write_of words) text refl
    (λ word rest. write_at (number word) rest ∙ sym (then_number word (words_of rest)))

-- ---- a piece

-- the bytes of a piece
bytes_for : ℕ → ℕ → List ℕ → Option RunEvent
bytes_for reader at digits = option_map (λ bytes. Piece reader bytes at) (hex_bytes digits)

bytes_alone : (reader at : ℕ) → IsWordAlone (bytes_for reader at)
unfolding bytes_for
bytes_alone reader at word rest = ap (option_map (λ bytes. Piece reader bytes at)) (hex_alone word rest)

-- the moment and the bytes of a piece
timed : ℕ → List (List ℕ) → Option RunEvent
timed reader [] = None
timed reader (seconds ∷ []) = None
timed reader (seconds ∷ digits ∷ []) = option_and_then (λ at. bytes_for reader at digits) (moment seconds)
timed reader (seconds ∷ digits ∷ fourth ∷ others) = None

then_bytes : (reader : ℕ) (seconds : List ℕ) (others : List (List ℕ)) → timed reader (seconds ∷ others) ≡ option_and_then (λ at. single_word (bytes_for reader at) others) (moment seconds)
unfolding timed
then_bytes reader seconds [] = sym (and_then_none (moment seconds))
then_bytes reader seconds (digits ∷ []) = refl
then_bytes reader seconds (digits ∷ fourth ∷ others) = sym (and_then_none (moment seconds))

then_timed : (word : List ℕ) (others : List (List ℕ)) → piece_of (word ∷ others) ≡ option_and_then (λ r. timed r others) (number word)
unfolding timed bytes_for
then_timed word [] = sym (and_then_none (number word))
then_timed word (seconds ∷ []) = sym (and_then_none (number word))
then_timed word (seconds ∷ digits ∷ []) = refl
then_timed word (seconds ∷ digits ∷ fourth ∷ others) = sym (and_then_none (number word))

-- the event of a piece, as its line has it
event_with : PieceWords → Option RunEvent
event_with piece = bytes_for piece.reader piece.moment piece.digits

bytes_at : (reader : ℕ) (o : Option ℕ) (rest : List ℕ) →
    option_and_then event_with (option_map (λ at. record { reader = reader; moment = at; digits = rest }) o) ≡ option_and_then (λ at. single_word (bytes_for reader at) (words_of rest)) o
unfolding event_with
bytes_at reader None rest = refl
bytes_at reader (Some at) rest = sym (single_word-is (bytes_for reader at) (bytes_alone reader at) rest)

timed-is : (reader : ℕ) (text : List ℕ) → option_and_then event_with (piece_for reader text) ≡ timed reader (words_of text)
unfolding timed
timed-is reader text =
    let F : Cut → Option PieceWords = λ cut. option_map (λ at. record { reader = reader; moment = at; digits = cut.rest }) (moment cut.word) in
    cut_cases (λ o words. option_and_then event_with (option_and_then F o) ≡ timed reader words) text refl
    (λ word rest. bytes_at reader (moment word) rest ∙ sym (then_bytes reader word (words_of rest)))

timed_at : (o : Option ℕ) (rest : List ℕ) → option_and_then event_with (option_and_then (λ r. piece_for r rest) o) ≡ option_and_then (λ r. timed r (words_of rest)) o
timed_at None rest = refl
timed_at (Some r) rest = timed-is r rest

piece-is : (text : List ℕ) → piece_in text ≡ piece_of (words_of text)
unfolding event_with bytes_for
piece-is text =
    let F : Cut → Option PieceWords = λ cut. option_and_then (λ r. piece_for r cut.rest) (number cut.word) in
    cut_cases (λ o words. option_and_then event_with (option_and_then F o) ≡ piece_of words) text refl
    (λ word rest. timed_at (number word) rest ∙ sym (then_timed word (words_of rest)))

-- ---- a whole line

-- the event that a first word names, of those that the words after it may tell
abbrev event_by : List ℕ → Option RunEvent → Option RunEvent → ((ℕ → RunEvent) → Option RunEvent) → Option RunEvent
event_by word piece write number =
    cond (is_word word (codes "piece")) piece (cond (is_word word (codes "end")) (number (λ r. End r)) (cond (is_word word (codes "offer")) (number (λ r. Offer r))
    (cond (is_word word (codes "take")) (number (λ d. Take d)) (cond (is_word word (codes "up")) (number (λ d. Up d))
    (cond (is_word word (codes "wrote")) write (cond (is_word word (codes "down")) (number (λ d. Down d)) None))))))

event-is : (word rest : List ℕ) → event_named word rest ≡ event_of word (words_of rest)
event-is word rest = λ i. event_by word (piece-is rest i) (write-is rest i) (λ event. sym (single_word-is (event_of_number event) (single_word-number event) rest) i)

named-is : (word rest : List ℕ) → meaning_named word rest ≡ meaning_of_words (word ∷ words_of rest)
named-is word rest = λ i.
    cond (is_word word (codes "reader")) (reader_or_bad (sym (single_word-is kind_named kind_alone rest) i)) (event_or_bad (event-is word rest i))

no_event : (word : List ℕ) → event_of word [] ≡ None
no_event word = simp same_of_both

bad_alone : (word : List ℕ) → Bad ≡ meaning_of_words (word ∷ [])
bad_alone word = sym (ap (λ (o : Option RunEvent). cond (is_word word (codes "reader")) Bad (event_or_bad o)) (no_event word) ∙ same_of_both (is_word word (codes "reader")) Bad)

same_words : (text : List ℕ) → meaning_of_cut (cut_of text) ≡ meaning_of_words (words_of text)
same_words text = cut_cases (λ o words. meaning_of_cut o ≡ meaning_of_words words) text (bad_alone text) named-is

-- a line that is not empty and no comment says what its words say
pub stripped-is : (line : List ℕ) → (length line == 0) ≡ false → ((rest : List ℕ) → line ≡ 35 ∷ rest → ⊥) → meaning_of_cut (cut_of line) ≡ meaning_of_stripped line
stripped-is [] none other = absurd (false≢true (sym none))
stripped-is (b ∷ bs) none other =
    let no_comment : (b == 35) ≡ false = false_from_ne_true (b == 35) (λ is. other bs (ap (λ (n : ℕ). n ∷ bs) (eqb-true b 35 is))) in
    same_words (b ∷ bs) ∙ sym (ap (λ (t : Bool). cond t Skipped (meaning_of_words (words_of (b ∷ bs)))) no_comment)
