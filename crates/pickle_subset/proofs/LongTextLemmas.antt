-- A text that is longer than any number is not a number.
use Rattle.std.proofs.Common.{◌≡◌, ℕ, suc, ◌+◌, ◌<◌, ◌≤◌, inl, inr, Bool, true, false, cond, List, [], ◌∷◌, length, take, drop, Option, Some, None, option_map, refl, ap, ◌∙◌, arith, length-drop}
use Rattle.std.specs.Prelude.{ℤ, nat_le, ◌&&◌, ◌||◌, ◌==◌, position}
use Rattle.std.specs.List.{list_all}
use Rattle.std.specs.Char.{is_ascii_digit}
use Rattle.std.proofs.lemmas.Bool.{cases_lt, lt-leb}
use Rattle.std.proofs.lemmas.List.{length-take}
use Rattle.relay_base.specs.Ascii.{plus_sign, minus_sign}
use Rattle.line_text.specs.Halves.{halves_at}
use Rattle.line_text.specs.Number.{Decimal, is_minus, without_sign, is_point, is_exponent_mark, are_digits, decimal_of, are_places, places_in, decimal_of_digits, decimal_round_point, decimal_round_mark, number_of}

second_false : (a b c d : Bool) → b ≡ false → (a && b && c && d) ≡ false
second_false true true c d e = absurd cc
second_false true false c d e = refl
second_false false b c d e = refl

middle_false : (a b c : Bool) → b ≡ false → (a && b && c) ≡ false
middle_false true true c e = absurd cc
middle_false true false c e = refl
middle_false false b c e = refl

wide : (minus : Bool) (whole fraction : List ℕ) (exponent : Option ℤ) → 38 < length whole + length fraction → decimal_of_digits minus whole fraction exponent ≡ None
wide minus whole fraction exponent many =
    let none = second_false (nat_le 1 (length whole + length fraction)) (nat_le (length whole + length fraction) 38) (list_all is_ascii_digit whole) (list_all is_ascii_digit fraction) (lt-leb (length whole + length fraction) 38 many) in
    ap (λ (b : Bool). cond b (option_map (decimal_of minus whole fraction) exponent) None) none

no_exponent : (minus : Bool) (whole fraction : List ℕ) → decimal_of_digits minus whole fraction None ≡ None
no_exponent minus whole fraction = either (are_digits whole fraction)
  where
    either : (b : Bool) → cond {A = Option Decimal} b None None ≡ None
    either true = refl
    either false = refl

long_front : (minus : Bool) (place : Option ℕ) (text : List ℕ) (exponent : Option ℤ) → 39 < length text → decimal_round_point minus (halves_at place text) exponent ≡ None
long_front minus None text exponent many = wide minus text [] exponent (omega arith)
long_front minus (Some place) text exponent many =
    wide minus (take place text) (drop (place + 1) text) exponent (omega (arith, length-take place text, length-drop (place + 1) text))

unsigned : (text : List ℕ) → length text ≤ length (without_sign text) + 1
unsigned [] = omega arith
unsigned (b ∷ bs) = either (b == plus_sign || b == minus_sign)
  where
    either : (signed : Bool) → suc (length bs) ≤ length (cond signed bs (b ∷ bs)) + 1
    either true = omega arith
    either false = omega arith

long_places : (text : List ℕ) → 4 < length text → places_in text ≡ None
long_places text many =
    let digits = without_sign text in
    let none = middle_false (nat_le 1 (length digits)) (nat_le (length digits) 3) (list_all is_ascii_digit digits) (lt-leb (length digits) 3 (omega (arith, unsigned text))) in
    ap (λ (b : Bool). cond b (Some (Rattle.line_text.specs.Number.with_sign (is_minus text) (Rattle.line_text.specs.Number.whole_of digits))) None) none

long_unsigned : (minus : Bool) (place : Option ℕ) (text : List ℕ) → 44 < length text → decimal_round_mark minus (halves_at place text) ≡ None
long_unsigned minus None text many = long_front minus (position is_point text) text (Some (Rattle.std.specs.Prelude.pos 0)) (omega arith)
long_unsigned minus (Some place) text many =
    elim (cases_lt (length (take place text)) 40) [
      | inl short ↦
          let rest = drop (place + 1) text in
          let front = halves_at (position is_point (take place text)) (take place text) in
          let none : places_in rest ≡ None = long_places rest (omega (arith, length-take place text, length-drop (place + 1) text)) in
          ap (λ (e : Option ℤ). decimal_round_point minus front e) none ∙ no_exponent minus front.front (Rattle.std.specs.Prelude.unwrap_or front.back [])
      | inr long ↦ long_front minus (position is_point (take place text)) (take place text) (places_in (drop (place + 1) text)) (omega arith)
    ]

pub no_number : (text : List ℕ) → 45 < length text → number_of text ≡ None
no_number text many = long_unsigned (is_minus text) (position is_exponent_mark (without_sign text)) (without_sign text) (omega (arith, unsigned text))
