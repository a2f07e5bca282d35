-- Words: texts that have no white space in them, and what is read of those that were printed.
use Rattle.std.proofs.Common.{◌≡◌, ℕ, zero, suc, ◌+◌, ◌-◌, ◌/◌, ◌%◌, ◌^◌, ◌<◌, ◌≤◌, Bool, true, false, not, cond, List, [], ◌∷◌, ◌++◌, reverse, length, take, drop, get_or, Some, refl, ap, ◌∙◌, arith, lit<, length-append}
use Rattle.std.specs.Prelude.{nat_lt, ◌==◌}
use Rattle.std.specs.Char.{is_ascii_digit}
use Rattle.std.specs.Fmt.{decimal}
use Rattle.std.specs.List.{list_all, slice_split}
use Rattle.std.specs.Result.{result_ok}
use Rattle.std.specs.Str.Parse.{digits_value}
use Rattle.std.proofs.lemmas.Bool.{and_parts, and_from, ltb-true, le-leb, ne_eqb}
use Rattle.std.proofs.lemmas.Bool.Decides.{nat_tests}
use Rattle.std.proofs.lemmas.Fmt.{decimal_nonempty, length-decimal-le, digits_decimal, digits_value-decimal}
use Rattle.std.proofs.lemmas.List.{take_all, get_or-reverse, length-reverse}
use Rattle.std.proofs.lemmas.List.Elements.{All-from_get_or}
use Rattle.std.proofs.lemmas.List.Splits.{slice_split_at, slice_split_none}
use Rattle.hex.specs.Hex.{encode_with, encode_lower, lower_digits, IsBytes}
use Rattle.hex.proofs.HexLemmas.{length-encode_with, decode_of-encode_lower}
use Rattle.relay_base.specs.White.{is_white, leading_white, without_leading, without_trailing, strip}
use Rattle.relay_base.proofs.WholeNumbers.{digits}
use Rattle.line_text.specs.declared.moment.TheConstants.{LAST_TIME}
use Rattle.replay.specs.ScriptWords.{number, moment, is_hex_digit, hex_bytes}

-- ---- bytes

abbrev pub is_past_space : ℕ → Bool
is_past_space b = nat_lt 32 b

-- what holds at each byte of a text holds at each place of it
pub list_all-get_or : (p : ℕ → Bool) (text : List ℕ) (k : ℕ) → list_all p text ≡ true → k < length text → p (get_or text k 0) ≡ true
list_all-get_or p [] k all lt = absurd (omega (arith, lt))
list_all-get_or p (b ∷ text) zero all lt = (and_parts (p b) (list_all p text) all).0
list_all-get_or p (b ∷ text) (suc k) all lt = list_all-get_or p text k (and_parts (p b) (list_all p text) all).1 (omega (arith, lt))

pub list_all-weaker : (p q : ℕ → Bool) → ((b : ℕ) → p b ≡ true → q b ≡ true) → (text : List ℕ) → list_all p text ≡ true → list_all q text ≡ true
list_all-weaker p q weaker [] all = refl
list_all-weaker p q weaker (b ∷ text) all =
    let parts = and_parts (p b) (list_all p text) all in
    and_from (q b) (list_all q text) (weaker b parts.0) (list_all-weaker p q weaker text parts.1)

white_not : (b : ℕ) → is_past_space b ≡ true → is_white b ≡ false
white_not b past =
    let above = ltb-true 32 b past in
    rw (ne_eqb b 9 (λ e. absurd (omega arith)), ne_eqb b 11 (λ e. absurd (omega arith)), ne_eqb b 12 (λ e. absurd (omega arith)), ne_eqb b 13 (λ e. absurd (omega arith)), ne_eqb b 32 (λ e. absurd (omega arith))) refl

-- ---- words

-- some bytes, all past the space
pub record IsWord (text : List ℕ) : Type 0 where
  pub some : 0 < length text
  pub past : list_all is_past_space text ≡ true

abbrev pub is_space : ℕ → Bool
is_space b = b == 32

no_space : (text : List ℕ) → IsWord text → (k : ℕ) → k < length text → is_space (get_or text k 0) ≡ false
no_space text word k lt =
    let above = ltb-true 32 (get_or text k 0) (list_all-get_or is_past_space text k word.past lt) in
    ne_eqb (get_or text k 0) 32 (λ e. absurd (omega arith))

pub words-one : (a : List ℕ) → IsWord a → slice_split is_space a ≡ a ∷ []
words-one a word = slice_split_none is_space a (All-from_get_or (λ b. is_space b ≡ false) a 0 (no_space a word))

pub words-then : (a rest : List ℕ) → IsWord a → slice_split is_space (a ++ 32 ∷ rest) ≡ a ∷ slice_split is_space rest
words-then a rest word = slice_split_at is_space a 32 rest (All-from_get_or (λ b. is_space b ≡ false) a 0 (no_space a word)) refl

-- ---- a text that begins and ends with a word has no white space to strip

no_leading : (text : List ℕ) → 0 < length text → is_past_space (get_or text 0 0) ≡ true → leading_white text ≡ 0
no_leading [] some past = absurd (omega (arith, some))
no_leading (b ∷ text) some past = ap (λ (w : Bool). cond (not (not w)) (1 + leading_white text) 0) (white_not b past)

-- the last byte of a text is that of the word that it ends with
last_past : (front rest : List ℕ) → IsWord rest → (k : ℕ) → k + 1 ≡ length (front ++ rest) → is_past_space (get_or (front ++ rest) k 0) ≡ true
last_past [] rest word k last = list_all-get_or is_past_space rest k word.past (omega (arith, last))
last_past (b ∷ front) rest word zero last = absurd (omega (arith, last, word.some, length-append front rest))
last_past (b ∷ front) rest word (suc k) last = last_past front rest word k (omega (arith, last))

pub strip-same : (front rest : List ℕ) → IsWord rest → leading_white (front ++ rest) ≡ 0 → strip (front ++ rest) ≡ front ++ rest
strip-same front rest word first =
    let text = front ++ rest in
    let some : 0 < length text = omega (arith, word.some, length-append front rest) in
    let begins : without_leading text ≡ text = ap (λ n. drop n text) first in
    let reversed : get_or (reverse text) 0 0 ≡ get_or text (length text - 1 - 0) 0 = get_or-reverse text 0 0 some in
    let last : is_past_space (get_or (reverse text) 0 0) ≡ true = ap is_past_space reversed ∙ last_past front rest word (length text - 1 - 0) (omega (arith, some)) in
    let ends : leading_white (reverse text) ≡ 0 = no_leading (reverse text) (omega (arith, some, length-reverse text)) last in
    ap without_trailing begins ∙ ap (λ n. take (length text - n) text) ends ∙ take_all (length text - 0) text (omega arith)

-- ---- numbers

digit_past : (b : ℕ) → is_ascii_digit b ≡ true → is_past_space b ≡ true
digit_past b is = grind (arith, nat_tests)

all_digits : (n : ℕ) → n < 10 ^ 16 → list_all is_ascii_digit (decimal n) ≡ true
all_digits n short = digits_decimal digits n (omega (arith, short))

pub decimal-is_word : (n : ℕ) → n < 10 ^ 16 → IsWord (decimal n)
decimal-is_word n short = record {
  some = decimal_nonempty n (omega (arith, short));
  past = list_all-weaker is_ascii_digit is_past_space digit_past (decimal n) (all_digits n short);
}

pub number-decimal : (n : ℕ) → n < 10 ^ 16 → number (decimal n) ≡ Some n
number-decimal n short =
    let few = le-leb (length (decimal n)) 16 (length-decimal-le 16 n (lit< tt) short (omega (arith, short))) in
    let some = le-leb 1 (length (decimal n)) (omega (arith, decimal_nonempty n (omega (arith, short)))) in
    let value : digits_value 10 (decimal n) ≡ n = digits_value-decimal digits n (omega (arith, short)) in
    let all = all_digits n short in
    rw (few, some, all, value) refl

pub moment-decimal : (n : ℕ) → n ≤ LAST_TIME → moment (decimal n) ≡ Some n
moment-decimal n within =
    rw (number-decimal n (omega (arith, within))) (rw (le-leb n LAST_TIME within) refl)

-- ---- bytes in hexadecimal digits

hex_past : (b : ℕ) → is_hex_digit b ≡ true → is_past_space b ≡ true
hex_past b is = grind (arith, nat_tests)

hex_digits : (bytes : List ℕ) → IsBytes bytes → list_all is_hex_digit (encode_lower bytes) ≡ true
unfolding encode_with
hex_digits [] are = refl
hex_digits (b ∷ bytes) are =
    let small : b < 256 = are 0 in
    let high : is_hex_digit (get_or lower_digits (b / 16) 0) ≡ true = list_all-get_or is_hex_digit lower_digits (b / 16) refl (omega (arith, small)) in
    let low : is_hex_digit (get_or lower_digits (b % 16) 0) ≡ true = list_all-get_or is_hex_digit lower_digits (b % 16) refl (omega (arith, small)) in
    and_from _ _ high (and_from _ _ low (hex_digits bytes (λ i. are (suc i))))

some_digits : (bytes : List ℕ) → 0 < length bytes → 0 < length (encode_lower bytes)
some_digits bytes some = omega (arith, some, length-encode_with lower_digits bytes)

pub hex-is_word : (bytes : List ℕ) → 0 < length bytes → IsBytes bytes → IsWord (encode_lower bytes)
hex-is_word bytes some are = record {
  some = some_digits bytes some;
  past = list_all-weaker is_hex_digit is_past_space hex_past (encode_lower bytes) (hex_digits bytes are);
}

pub hex_bytes-encode : (bytes : List ℕ) → 0 < length bytes → IsBytes bytes → hex_bytes (encode_lower bytes) ≡ Some bytes
hex_bytes-encode bytes some are =
    let more = some_digits bytes some in
    let there = ne_eqb (length (encode_lower bytes)) 0 (λ e. absurd (omega (arith, e, more))) in
    let all = hex_digits bytes are in
    rw (there, all) (ap result_ok (decode_of-encode_lower bytes are))
