-- A printed line is one line, and is read back as the same datapoint.
use Rattle.std.proofs.Common.{◌≡◌, ℕ, zero, suc, ◌+◌, ◌*◌, ◌/◌, ◌%◌, ◌^◌, ◌<◌, ◌≤◌, ℤ, pos, negsuc, neg_ℤ, ◌*ℤ◌, ◌-ℤ◌, inl, inr, Bool, true, false, not, ◌||◌, cond, filter, List, [], ◌∷◌, ◌++◌, length, take, drop, Some, None, Ok, ltb, refl, ap, sym, ◌∙◌, subst, arith, lit<, append_assoc, length-append, length-take, take-append-drop}
use Rattle.std.specs.Prelude.{nat_abs, int_lt, nat_lt, ◌==◌, option_and_then}
use Rattle.std.specs.List.{list_all, slice_split, onto_first, position, position_or_len}
use Rattle.std.specs.Char.{is_ascii_digit}
use Rattle.std.specs.Str.{is_utf8}
use Rattle.std.specs.Fmt.{decimal, signed_decimal}
use Rattle.std.proofs.lemmas.Bool.{cases_Bool, and_parts, and_from, leb-true, ltb-true, lt-ltb, le-leb, ne_eqb, eq-eqb, eqb-true, le-ltb}
use Rattle.std.proofs.lemmas.List.{append-nil}
use Rattle.std.proofs.lemmas.List.Elements.{filter-append}
use Rattle.std.proofs.lemmas.List.Folds.{list_all-append}
use Rattle.std.proofs.lemmas.Fmt.{length-decimal-le, decimal_nonempty}
use Rattle.std.proofs.lemmas.Nat.{pow-add}
use Rattle.line_text.specs.Datapoint.{Datapoint}
use Rattle.relay_base.specs.White.{is_white}
use Rattle.line_text.specs.Field.{fields}
use Rattle.line_text.specs.Name.{longest_name, is_name, is_name_byte, has_name_bytes}
use Rattle.line_text.specs.Number.{Decimal, most_digits, number_of, decimal_round_mark, decimal_round_point, decimal_of_digits, is_minus, without_sign, is_exponent_mark, is_point, whole_of, with_digits, with_sign, IsAfterWhole}
use Rattle.line_text.specs.Value.{value_of, units_of_one, most_units}
use Rattle.line_text.specs.Time.{time_of, time_below_zero, time_from_zero, whole_part, last_time}
use Rattle.line_text.specs.Line.{reading, of_fields, value_in, time_in}
use Rattle.line_text.specs.Halves.{halves, halves_at}
use Rattle.line_text.specs.Print.{printed_text, printed_value, printed_magnitude, printed_sign, printed_fraction, digits_after_point}
use Rattle.line_text.specs.Laws.{IsDatapoint, IsOneLine}
use Rattle.line_text.proofs.DigitLemmas.{with_digits-append}
use Rattle.line_text.proofs.PrintLemmas.{digit_is, AreDigitsOf, decimal_digits, no_place, AreFractionOf, fraction_digits, fraction_after_whole}
use Rattle.line_text.proofs.ValueLemmas.{value-exact, whole_part-from}
use Rattle.line_text.proofs.FieldLemmas.{has_bytes, filter-some}

-- ---- a test that follows from another

list_all-weaker : (p q : ℕ → Bool) → ((b : ℕ) → p b ≡ true → q b ≡ true) → (text : List ℕ) → list_all p text ≡ true → list_all q text ≡ true
list_all-weaker p q weaker [] all = refl
list_all-weaker p q weaker (b ∷ text) all =
    let parts = and_parts (p b) (list_all p text) all in
    and_from (q b) (list_all q text) (weaker b parts.0) (list_all-weaker p q weaker text parts.1)

-- bytes past the space are not white space
abbrev past_space : ℕ → Bool
past_space b = nat_lt 32 b

white_not : (b : ℕ) → past_space b ≡ true → is_white b ≡ false
white_not b past =
    let above = ltb-true 32 b past in
    rw (ne_eqb b 9 (λ e. absurd (omega arith)), ne_eqb b 11 (λ e. absurd (omega arith)), ne_eqb b 12 (λ e. absurd (omega arith)), ne_eqb b 13 (λ e. absurd (omega arith)), ne_eqb b 32 (λ e. absurd (omega arith))) refl

-- ---- three fields

parts-before : (text rest : List ℕ) → list_all past_space text ≡ true → slice_split is_white (text ++ 32 ∷ rest) ≡ text ∷ slice_split is_white rest
parts-before [] rest all = refl
parts-before (b ∷ text) rest all =
    let parts = and_parts (past_space b) (list_all past_space text) all in
    ap (λ (t : Bool). cond t ([] ∷ slice_split is_white (text ++ 32 ∷ rest)) (onto_first b (slice_split is_white (text ++ 32 ∷ rest)))) (white_not b parts.0)
    ∙ ap (onto_first b) (parts-before text rest parts.1)

parts-last : (text : List ℕ) → list_all past_space text ≡ true → slice_split is_white text ≡ text ∷ []
parts-last [] all = refl
parts-last (b ∷ text) all =
    let parts = and_parts (past_space b) (list_all past_space text) all in
    ap (λ (t : Bool). cond t ([] ∷ slice_split is_white text) (onto_first b (slice_split is_white text))) (white_not b parts.0)
    ∙ ap (onto_first b) (parts-last text parts.1)

-- a text that is a field: some bytes, none of them white
record IsField (text : List ℕ) : Type 0 where
  some : 0 < length text
  past : list_all past_space text ≡ true

fields-three : (a b c : List ℕ) → IsField a → IsField b → IsField c → fields (a ++ 32 ∷ b ++ 32 ∷ c) ≡ a ∷ b ∷ c ∷ []
fields-three a b c is_a is_b is_c =
    let cut : slice_split is_white (a ++ 32 ∷ b ++ 32 ∷ c) ≡ a ∷ b ∷ c ∷ [] =
    ap (slice_split is_white) (append_assoc a (32 ∷ b) (32 ∷ c))
    ∙ parts-before a (b ++ 32 ∷ c) is_a.past
    ∙ ap (λ parts. a ∷ parts) (parts-before b c is_b.past ∙ ap (λ parts. b ∷ parts) (parts-last c is_c.past))
    in
    ap (filter has_bytes) cut
    ∙ filter-some a (b ∷ c ∷ []) is_a.some
    ∙ ap (λ parts. a ∷ parts) (filter-some b (c ∷ []) is_b.some ∙ ap (λ parts. b ∷ parts) (filter-some c [] is_c.some))

name_past : (b : ℕ) → is_name_byte b ≡ true → past_space b ≡ true
name_past b is = (and_parts (past_space b) (not (b == 127)) is).0

name-is_field : (name : List ℕ) → is_name name ≡ true → IsField name
name-is_field name is =
    let bytes = and_parts _ _ (and_parts (has_name_bytes name) (is_utf8 name) is).0 in
    record {
      some = omega (arith, leb-true 1 (length name) (and_parts _ _ bytes.0).0);
      past = list_all-weaker is_name_byte past_space name_past name bytes.1;
    }

digit_past : (b : ℕ) → is_ascii_digit b ≡ true → past_space b ≡ true
digit_past b is = lt-ltb 32 b (omega (arith, (digit_is b is).low))

decimal-is_field : (n : ℕ) → n < 2 ^ 64 → IsField (decimal n)
decimal-is_field n small = record {
  some = decimal_nonempty n small;
  past = list_all-weaker is_ascii_digit past_space digit_past (decimal n) (decimal_digits n small).all;
}

-- ---- digits are read as their number

digit_no_mark : (b : ℕ) → is_ascii_digit b ≡ true → is_exponent_mark b ≡ false
digit_no_mark b is =
    let within = (digit_is b is).high in
    rw (ne_eqb b 69 (λ e. absurd (omega arith)), ne_eqb b 101 (λ e. absurd (omega arith))) refl

digit_no_point : (b : ℕ) → is_ascii_digit b ≡ true → is_point b ≡ false
digit_no_point b is =
    let above = (digit_is b is).low in
    ne_eqb b 46 (λ e. absurd (omega arith))

-- a byte of digits with a point
abbrev is_decimal_byte : ℕ → Bool
is_decimal_byte b = is_ascii_digit b || is_point b

decimal_no_mark : (b : ℕ) → is_decimal_byte b ≡ true → is_exponent_mark b ≡ false
decimal_no_mark b is =
    elim (cases_Bool (is_ascii_digit b)) [
      | inl digit ↦ digit_no_mark b digit
      | inr other ↦ point_no_mark (sym (ap (λ (t : Bool). t || is_point b) other) ∙ is)
    ]
  where
    point_no_mark : is_point b ≡ true → is_exponent_mark b ≡ false
    point_no_mark point =
        let at = eqb-true b 46 point in
        rw (ne_eqb b 69 (λ e. absurd (omega (arith, at, e))), ne_eqb b 101 (λ e. absurd (omega (arith, at, e)))) refl

digit_decimal : (b : ℕ) → is_ascii_digit b ≡ true → is_decimal_byte b ≡ true
digit_decimal b is = ap (λ (t : Bool). t || is_point b) is

decimal_point : (b : ℕ) → is_point b ≡ true → is_decimal_byte b ≡ true
decimal_point b point = or_right (is_ascii_digit b) (is_point b) point
  where
    or_right : (x y : Bool) → y ≡ true → (x || y) ≡ true
    or_right true y is = refl
    or_right false y is = is

-- ---- the position of a byte after bytes of another kind

place_after : (p q : ℕ → Bool) → ((b : ℕ) → q b ≡ true → p b ≡ false) → (text : List ℕ) (b : ℕ) (rest : List ℕ) → list_all q text ≡ true → p b ≡ true → position p (text ++ b ∷ rest) ≡ Some (length text)
place_after p q apart text b rest all is =
    let at = first text all in
    let inside : length text < length (text ++ b ∷ rest) = simp length-append (omega arith) in
    ap (λ (n : ℕ). cond (ltb n (length (text ++ b ∷ rest))) (Some n) None) at
    ∙ ap (λ (t : Bool). cond t (Some (length text)) None) (lt-ltb (length text) (length (text ++ b ∷ rest)) inside)
  where
    first : (before : List ℕ) → list_all q before ≡ true → position_or_len p (before ++ b ∷ rest) ≡ length before
    first [] all' = ap (λ (t : Bool). cond (not t) (1 + position_or_len p rest) 0) is
    first (x ∷ before) all' =
        let parts = and_parts (q x) (list_all q before) all' in
        let here = ap (λ (t : Bool). cond (not t) (1 + position_or_len p (before ++ b ∷ rest)) 0) (apart x parts.0) in
        let others = first before parts.1 in
        omega (arith, here, others)

take-append : (a b : List ℕ) → take (length a) (a ++ b) ≡ a
take-append [] b = refl
take-append (x ∷ a) b = ap (λ (l : List ℕ). x ∷ l) (take-append a b)

drop-after : (a : List ℕ) (x : ℕ) (b : List ℕ) → drop (length a + 1) (a ++ x ∷ b) ≡ b
drop-after [] x b = refl
drop-after (y ∷ a) x b =
    let next : suc (length a) + 1 ≡ suc (length a + 1) = omega arith in
    ap (λ (n : ℕ). drop n (y ∷ a ++ x ∷ b)) next ∙ drop-after a x b

decimal_bytes : (whole rest fraction : List ℕ) → list_all is_ascii_digit whole ≡ true → list_all is_ascii_digit fraction ≡ true → IsAfterWhole rest fraction → list_all is_decimal_byte (whole ++ rest) ≡ true
decimal_bytes whole rest fraction all all' after =
    list_all-append is_decimal_byte whole rest ∙ and_from _ _ (list_all-weaker is_ascii_digit is_decimal_byte digit_decimal whole all) (behind rest after)
  where
    behind : (text : List ℕ) → IsAfterWhole text fraction → list_all is_decimal_byte text ≡ true
    behind [] _ = refl
    behind (b ∷ text) is =
        let point : is_point b ≡ true = eq-eqb b 46 is.0 in
        let here : is_decimal_byte b ≡ true = decimal_point b point in
        let others = subst (λ (l : List ℕ). list_all is_ascii_digit l ≡ true) (sym is.1) all' in
        and_from _ _ here (list_all-weaker is_ascii_digit is_decimal_byte digit_decimal text others)

-- digits, then nothing or a point and digits, as one number
decimal_round_point-digits : (minus : Bool) (whole rest fraction : List ℕ) → list_all is_ascii_digit whole ≡ true → list_all is_ascii_digit fraction ≡ true → IsAfterWhole rest fraction
    → 1 ≤ length whole + length fraction → length whole + length fraction ≤ most_digits
    → decimal_round_point minus (halves is_point (whole ++ rest)) (Some (pos 0)) ≡ Some (record { mantissa = with_sign minus (whole_of (whole ++ fraction)); exponent = pos 0 -ℤ pos (length fraction) })
decimal_round_point-digits minus whole [] fraction all all' after some few =
    subst (λ (f : List ℕ). decimal_round_point minus (halves is_point (whole ++ [])) (Some (pos 0)) ≡ Some (record { mantissa = with_sign minus (whole_of (whole ++ f)); exponent = pos 0 -ℤ pos (length f) })) (sym after) alone
  where
    alone : decimal_round_point minus (halves is_point (whole ++ [])) (Some (pos 0)) ≡ Some (record { mantissa = with_sign minus (whole_of (whole ++ [])); exponent = pos 0 -ℤ pos 0 })
    alone =
        let no_point = no_place is_point is_ascii_digit digit_no_point whole all in
        let none : length fraction ≡ 0 = ap length after in
        let count : length whole + 0 ≡ length whole = omega arith in
        ap (λ text. decimal_round_point minus (halves is_point text) (Some (pos 0))) (append-nil whole)
        ∙ ap (λ place. decimal_round_point minus (halves_at place whole) (Some (pos 0))) no_point
        ∙ rw (count, le-leb 1 (length whole) (omega (arith, none)), le-leb (length whole) most_digits (omega (arith, none)), all) refl
decimal_round_point-digits minus whole (b ∷ rest) fraction all all' after some few =
    let place = place_after is_point is_ascii_digit digit_no_point whole b rest all (eq-eqb b 46 after.0) in
    let front : take (length whole) (whole ++ b ∷ rest) ≡ whole = take-append whole (b ∷ rest) in
    let back : drop (length whole + 1) (whole ++ b ∷ rest) ≡ fraction = drop-after whole b rest ∙ after.1 in
    ap (λ place'. decimal_round_point minus (halves_at place' (whole ++ b ∷ rest)) (Some (pos 0))) place
    ∙ ap (λ front'. decimal_of_digits minus front' (drop (length whole + 1) (whole ++ b ∷ rest)) (Some (pos 0))) front
    ∙ ap (λ back'. decimal_of_digits minus whole back' (Some (pos 0))) back
    ∙ rw (le-leb 1 (length whole + length fraction) some, le-leb (length whole + length fraction) most_digits few, all, all') refl

pub decimal_round_mark-digits : (minus : Bool) (whole rest fraction : List ℕ) → list_all is_ascii_digit whole ≡ true → list_all is_ascii_digit fraction ≡ true → IsAfterWhole rest fraction
    → 1 ≤ length whole + length fraction → length whole + length fraction ≤ most_digits
    → decimal_round_mark minus (halves is_exponent_mark (whole ++ rest)) ≡ Some (record { mantissa = with_sign minus (whole_of (whole ++ fraction)); exponent = pos 0 -ℤ pos (length fraction) })
decimal_round_mark-digits minus whole rest fraction all all' after some few =
    let no_mark = no_place is_exponent_mark is_decimal_byte decimal_no_mark (whole ++ rest) (decimal_bytes whole rest fraction all all' after) in
    ap (λ place. decimal_round_mark minus (halves_at place (whole ++ rest))) no_mark
    ∙ decimal_round_point-digits minus whole rest fraction all all' after some few

-- a text of a sign, some digits, and nothing or a point and digits
pub number_of-short : (text unsigned fraction : List ℕ) (minus : Bool) (len number digits : ℕ) → unsigned ≡ without_sign text → minus ≡ is_minus text
    → list_all is_ascii_digit (take len unsigned) ≡ true → number ≡ whole_of (take len unsigned) → len ≤ length unsigned
    → IsAfterWhole (drop len unsigned) fraction → list_all is_ascii_digit fraction ≡ true → digits ≡ with_digits number fraction
    → 1 ≤ len + length fraction → len + length fraction ≤ most_digits
    → number_of text ≡ Some (record { mantissa = with_sign minus digits; exponent = pos 0 -ℤ pos (length fraction) })
number_of-short text unsigned fraction minus len number digits is_unsigned is_sign all is_number inside after all' is_digits some few =
    let whole = take len unsigned in
    let count : length whole ≡ len = simp length-take (omega (arith, inside)) in
    let value : whole_of (whole ++ fraction) ≡ digits
    = with_digits-append 0 whole fraction ∙ ap (λ (n : ℕ). with_digits n fraction) (sym is_number) ∙ sym is_digits in
    ap (λ t. decimal_round_mark (is_minus text) (halves is_exponent_mark t)) (sym is_unsigned ∙ sym (take-append-drop len unsigned))
    ∙ decimal_round_mark-digits (is_minus text) whole (drop len unsigned) fraction all all' after (omega (arith, count, some)) (omega (arith, count, few))
    ∙ ap (λ (m : Bool). Some (record { mantissa = with_sign m (whole_of (whole ++ fraction)); exponent = pos 0 -ℤ pos (length fraction) })) (sym is_sign)
    ∙ ap (λ (n : ℕ). Some (record { mantissa = with_sign minus n; exponent = pos 0 -ℤ pos (length fraction) })) value

-- digits begin with no sign
record BeginsPlain (text : List ℕ) : Type 0 where
  plus : is_minus text ≡ false
  whole : without_sign text ≡ text

begins_plain : (digits rest : List ℕ) → list_all is_ascii_digit digits ≡ true → 0 < length digits → BeginsPlain (digits ++ rest)
begins_plain [] rest all some = absurd (omega (arith, some))
begins_plain (b ∷ digits) rest all some =
    let above = (digit_is b (and_parts (is_ascii_digit b) (list_all is_ascii_digit digits) all).0).low in
    let no_minus = ne_eqb b 45 (λ e. absurd (omega arith)) in
    let no_plus = ne_eqb b 43 (λ e. absurd (omega arith)) in
    record { plus = no_minus; whole = rw (no_plus, no_minus) refl }

-- ---- a printed value is read as that value

-- what is known of the digits of a value
record AreDigitsOfUnits (units : ℕ) : Type 0 where
  whole : AreDigitsOf (units / units_of_one) (decimal (units / units_of_one))
  some : 0 < length (decimal (units / units_of_one))
  few : length (decimal (units / units_of_one)) ≤ 19
  fraction : AreFractionOf 10 (units % units_of_one) (units / units_of_one) (digits_after_point 10 (units % units_of_one))

digits_of_units : (units : ℕ) → units ≤ most_units → AreDigitsOfUnits units
digits_of_units units within =
    let small : units / units_of_one ≤ 2 ^ 63 = omega arith in
    record {
      whole = decimal_digits (units / units_of_one) (omega (arith, small));
      some = decimal_nonempty (units / units_of_one) (omega (arith, small));
      few = length-decimal-le 19 (units / units_of_one) (lit< tt) (omega (arith, small)) (omega (arith, small));
      fraction = fraction_digits 10 (units % units_of_one) (units / units_of_one) (omega arith);
    }

abbrev fraction_of : ℕ → List ℕ
fraction_of units = digits_after_point 10 (units % units_of_one)

abbrev digits_of : ℕ → ℕ
digits_of units = whole_of (decimal (units / units_of_one) ++ fraction_of units)

decimal_round_mark-printed : (minus : Bool) (units : ℕ) → units ≤ most_units
    → decimal_round_mark minus (halves is_exponent_mark (printed_magnitude units)) ≡ Some (record { mantissa = with_sign minus (digits_of units); exponent = pos 0 -ℤ pos (length (fraction_of units)) })
decimal_round_mark-printed minus units within =
    let digits = digits_of_units units within in
    let count = digits.fraction.count in
    decimal_round_mark-digits minus (decimal (units / units_of_one)) (printed_fraction (units % units_of_one)) (fraction_of units)
    digits.whole.all digits.fraction.all (fraction_after_whole (units % units_of_one)) (omega (arith, digits.some)) (omega (arith, digits.few, count))

value_of-printed : (minus : Bool) (units : ℕ) → units ≤ most_units → value_of (record { mantissa = with_sign minus (digits_of units); exponent = pos 0 -ℤ pos (length (fraction_of units)) }) ≡ Some (with_sign minus units)
value_of-printed minus units within =
    let digits = digits_of_units units within in
    let zeros = digits.fraction.zeros in
    let k = length (fraction_of units) in
    let read : digits_of units ≡ with_digits (units / units_of_one) (fraction_of units)
    = with_digits-append 0 (decimal (units / units_of_one)) (fraction_of units) ∙ ap (λ (n : ℕ). with_digits n (fraction_of units)) digits.whole.value in
    let whole : digits_of units * 10 ^ zeros ≡ units = ap (λ (n : ℕ). n * 10 ^ zeros) read ∙ digits.fraction.value ∙ (omega arith) in
    let tens : 10 ^ zeros * 10 ^ k ≡ units_of_one = sym (pow-add 10 zeros k) ∙ ap (λ (n : ℕ). 10 ^ n) digits.fraction.count in
    let exact : units * 10 ^ k ≡ digits_of units * units_of_one
    = ap (λ (n : ℕ). n * 10 ^ k) (sym whole) ∙ regroup (digits_of units) (10 ^ zeros) (10 ^ k) ∙ ap (λ (n : ℕ). digits_of units * n) tens in
    value-exact minus (digits_of units) units k exact within
  where
    regroup : (x y z : ℕ) → x * y * z ≡ x * (y * z)
    regroup x y z = omega arith

value-read : (v : ℤ) → nat_abs v ≤ most_units → value_in (printed_value v) ≡ Some v
value-read (pos units) within =
    let digits = digits_of_units units within in
    let plain = begins_plain (decimal (units / units_of_one)) (printed_fraction (units % units_of_one)) digits.whole.all digits.some in
    ap (λ (minus : Bool). option_and_then value_of (decimal_round_mark minus (halves is_exponent_mark (without_sign (printed_magnitude units))))) plain.plus
    ∙ ap (λ text. option_and_then value_of (decimal_round_mark false (halves is_exponent_mark text))) plain.whole
    ∙ ap (option_and_then value_of) (decimal_round_mark-printed false units within)
    ∙ value_of-printed false units within
value-read (negsuc n) within =
    ap (option_and_then value_of) (decimal_round_mark-printed true (suc n) within)
    ∙ value_of-printed true (suc n) within

-- digits by themselves
number_of-decimal : (n : ℕ) → n < 2 ^ 64 → number_of (decimal n) ≡ Some (record { mantissa = pos n; exponent = pos 0 })
number_of-decimal n small =
    let digits = decimal_digits n small in
    let some = decimal_nonempty n small in
    let few : length (decimal n) ≤ most_digits = length-decimal-le most_digits n (lit< tt) (omega arith) small in
    let alone = append-nil (decimal n) in
    let plain = subst BeginsPlain alone (begins_plain (decimal n) [] digits.all some) in
    ap (λ (minus : Bool). decimal_round_mark minus (halves is_exponent_mark (without_sign (decimal n)))) plain.plus
    ∙ ap (λ text. decimal_round_mark false (halves is_exponent_mark text)) (plain.whole ∙ sym alone)
    ∙ decimal_round_mark-digits false (decimal n) [] [] digits.all refl refl (omega (arith, some)) (omega (arith, few))
    ∙ ap (λ (m : ℕ). Some (record { mantissa = pos m; exponent = pos 0 })) (ap whole_of alone ∙ digits.value)

time-read : (t moment : ℕ) → t ≤ last_time → time_in (decimal t) moment ≡ Some t
time-read t moment within =
    let d : Decimal = record { mantissa = pos t; exponent = pos 0 } in
    let whole = whole_part-from d t (record { reached = omega arith; greatest = omega arith }) in
    ap (option_and_then (λ (number : Decimal). time_of number moment)) (number_of-decimal t (omega arith))
    ∙ ap (λ (minus : Bool). cond minus (time_below_zero (whole_part d) moment) (time_from_zero (whole_part d))) (le-ltb t 0 (omega arith))
    ∙ ap time_from_zero whole
    ∙ ap (λ (b : Bool). cond b (Some t) None) (le-leb t last_time within)

decimal_past : (b : ℕ) → is_decimal_byte b ≡ true → past_space b ≡ true
decimal_past b is =
    elim (cases_Bool (is_ascii_digit b)) [
      | inl digit ↦ digit_past b digit
      | inr other ↦ point_past (sym (ap (λ (t : Bool). t || is_point b) other) ∙ is)
    ]
  where
    point_past : is_point b ≡ true → past_space b ≡ true
    point_past point = lt-ltb 32 b (omega (arith, eqb-true b 46 point))

magnitude-is_field : (units : ℕ) → units ≤ most_units → IsField (printed_magnitude units)
magnitude-is_field units within =
    let digits = digits_of_units units within in
    let bytes = decimal_bytes (decimal (units / units_of_one)) (printed_fraction (units % units_of_one)) (fraction_of units) digits.whole.all digits.fraction.all (fraction_after_whole (units % units_of_one)) in
    record {
      some = simp length-append (omega (arith, digits.some));
      past = list_all-weaker is_decimal_byte past_space decimal_past (printed_magnitude units) bytes;
    }

value-is_field : (v : ℤ) → nat_abs v ≤ most_units → IsField (printed_value v)
value-is_field (pos units) within = magnitude-is_field units within
value-is_field (negsuc n) within = record { some = omega arith; past = (magnitude-is_field (suc n) within).past }

pub length-printed_fraction : (part : ℕ) → part < units_of_one → length (printed_fraction part) ≤ 11
length-printed_fraction part small =
    let digits = fraction_digits 10 part 0 small in
    longest (printed_fraction part) (digits_after_point 10 part) (fraction_after_whole part) (omega (arith, digits.count))
  where
    longest : (rest fraction : List ℕ) → IsAfterWhole rest fraction → length fraction ≤ 10 → length rest ≤ 11
    longest [] fraction is few = omega arith
    longest (b ∷ rest) fraction is few = omega (arith, ap length is.1, few)

length-magnitude : (units : ℕ) → units ≤ most_units → length (printed_magnitude units) ≤ 30
length-magnitude units within =
    let digits = digits_of_units units within in
    let fraction = length-printed_fraction (units % units_of_one) (omega arith) in
    simp length-append (omega (arith, digits.few, fraction))

pub length-printed_value : (v : ℤ) → nat_abs v ≤ most_units → length (printed_value v) ≤ 31
length-printed_value (pos units) within = omega (arith, length-magnitude units within)
length-printed_value (negsuc n) within = omega (arith, length-magnitude (suc n) within)

-- a value by its parts
pub printed_value-parts : (v : ℤ) → printed_sign (int_lt v (pos 0)) ++ decimal (nat_abs v / units_of_one) ++ printed_fraction (nat_abs v % units_of_one) ≡ printed_value v
printed_value-parts (pos units) =
    ap (λ (minus : Bool). printed_sign minus ++ decimal (units / units_of_one) ++ printed_fraction (units % units_of_one)) (le-ltb units 0 (omega arith))
printed_value-parts (negsuc n) = refl

-- a sign, a whole part and a fraction, written one after another
pub value-written : (old signed whole_too all text : List ℕ) (v : ℤ) (minus : Bool) (whole fraction : ℕ) → minus ≡ int_lt v (pos 0) → whole ≡ nat_abs v / units_of_one → fraction ≡ nat_abs v % units_of_one
    → signed ≡ old ++ printed_sign minus → text ≡ decimal whole → whole_too ≡ signed ++ text → all ≡ whole_too ++ printed_fraction fraction → all ≡ old ++ printed_value v
value-written old signed whole_too all text v minus whole fraction is_minus is_whole is_fraction with_sign' is_text with_whole with_fraction =
    let sign = printed_sign minus in
    let digits = decimal whole in
    let rest = printed_fraction fraction in
    let parts : sign ++ digits ++ rest ≡ printed_value v
    = ap (λ (m : Bool). printed_sign m ++ digits ++ rest) is_minus
    ∙ ap (λ (w : ℕ). printed_sign (int_lt v (pos 0)) ++ decimal w ++ rest) is_whole
    ∙ ap (λ (f : ℕ). printed_sign (int_lt v (pos 0)) ++ decimal (nat_abs v / units_of_one) ++ printed_fraction f) is_fraction
    ∙ printed_value-parts v in
    with_fraction
    ∙ ap (λ (front : List ℕ). front ++ rest) (with_whole ∙ ap (λ (front : List ℕ). front ++ text) with_sign' ∙ ap (λ (t : List ℕ). old ++ sign ++ t) is_text)
    ∙ ap (λ (front : List ℕ). front ++ rest) (append_assoc old sign digits)
    ∙ append_assoc old (sign ++ digits) rest
    ∙ ap (λ (value : List ℕ). old ++ value) parts

-- whole numbers have no fraction
magnitude-whole : (n : ℕ) → printed_magnitude (n * units_of_one) ≡ decimal n
magnitude-whole n =
    let whole : n * units_of_one / units_of_one ≡ n = omega arith in
    let rest : n * units_of_one % units_of_one ≡ 0 = omega arith in
    ap (λ (w : ℕ). decimal w ++ printed_fraction (n * units_of_one % units_of_one)) whole
    ∙ ap (λ (part : ℕ). decimal n ++ printed_fraction part) rest
    ∙ append-nil (decimal n)

pub printed_value-whole : (n : ℤ) → printed_value (n *ℤ pos units_of_one) ≡ signed_decimal n
printed_value-whole (pos n) = magnitude-whole n
printed_value-whole (negsuc n) = below (suc n * units_of_one) (omega arith) ∙ ap (λ (text : List ℕ). 45 ∷ text) (magnitude-whole (suc n))
  where
    below : (units : ℕ) → 0 < units → printed_value (neg_ℤ (pos units)) ≡ 45 ∷ printed_magnitude units
    below zero some = absurd (omega (arith, some))
    below (suc units) some = refl

-- ---- a printed line

pub reading-printed : (p : Datapoint) → IsDatapoint p → (moment : ℕ) → reading (record { text = printed_text p; moment = moment }) ≡ Ok (Some p)
reading-printed p is moment =
    let three = fields-three p.name (printed_value p.value) (decimal p.time) (name-is_field p.name is.name) (value-is_field p.value is.value) (decimal-is_field p.time (omega (arith, is.time))) in
    ap (λ parts. of_fields parts moment) three
    ∙ rw (is.name, value-read p.value is.value, time-read p.time moment is.time) refl

-- no byte past white space is a newline
filter-none : (text : List ℕ) → list_all past_space text ≡ true → filter (λ b. b == 10) text ≡ []
filter-none [] all = refl
filter-none (b ∷ text) all =
    let parts = and_parts (past_space b) (list_all past_space text) all in
    let above = ltb-true 32 b parts.0 in
    ap (λ (t : Bool). cond t (b ∷ filter (λ b'. b' == 10) text) (filter (λ b'. b' == 10) text)) (ne_eqb b 10 (λ e. absurd (omega arith)))
    ∙ filter-none text parts.1

pub printed_line-is_one_line : (p : Datapoint) → IsDatapoint p → IsOneLine p
printed_line-is_one_line p is =
    let name = filter-none p.name (name-is_field p.name is.name).past in
    let value = filter-none (printed_value p.value) (value-is_field p.value is.value).past in
    let time = filter-none (decimal p.time) (decimal-is_field p.time (omega (arith, is.time))).past in
    let newline : ℕ → Bool = λ b. b == 10 in
    let front = p.name ++ 32 ∷ printed_value p.value in
    let two : filter newline front ≡ [] =
    filter-append newline p.name (32 ∷ printed_value p.value) ∙ ap (λ (kept : List ℕ). kept ++ filter newline (32 ∷ printed_value p.value)) name ∙ value
    in
    let three : filter newline (printed_text p) ≡ [] =
    filter-append newline front (32 ∷ decimal p.time) ∙ ap (λ (kept : List ℕ). kept ++ filter newline (32 ∷ decimal p.time)) two ∙ time
    in
    let bytes = and_parts _ _ (and_parts (has_name_bytes p.name) (is_utf8 p.name) is.name).0 in
    let name_len : length p.name ≤ longest_name = leb-true (length p.name) longest_name (and_parts _ _ bytes.0).1 in
    let value_len : length (printed_value p.value) ≤ 31 = length-printed_value p.value is.value in
    let time_len : length (decimal p.time) ≤ 16 = length-decimal-le 16 p.time (lit< tt) (omega (arith, is.time)) (omega (arith, is.time)) in
    record {
      ends = refl;
      one = filter-append newline (printed_text p) (10 ∷ []) ∙ ap (λ (kept : List ℕ). kept ++ filter newline (10 ∷ [])) three;
      short = simp length-append (omega arith);
    }
