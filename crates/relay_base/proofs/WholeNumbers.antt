-- What `parse` gives at digits alone, and what the digits of a short text can write.
use Rattle.std.proofs.Common.{◌≡◌, ℕ, ◌<◌, ◌≤◌, ◌^◌, Bool, true, false, cond, List, [], ◌∷◌, length, Option, Some, None, Result, Err, refl, sym, ap, subst, ◌∙◌, arith, rules}
use Rattle.std.specs.Char.{is_ascii_digit}
use Rattle.std.specs.List.{list_all}
use Rattle.std.specs.Prelude.{nat_le, option_and_then}
use Rattle.std.specs.Str.Parse.{ParsesUnsigned, digits_value}
use Rattle.std.proofs.lemmas.Bool.Decides.{nat_tests}
use Rattle.std.proofs.lemmas.Str.Parse.{IsNumeralModel, numerals_by_value, parse_digits, digits_value_short}
use Rattle.relay_base.specs.WholeNumber.{is_whole_number, whole_number, whole_number_up_to, short_whole_number}

pub digits : IsNumeralModel (λ ds. list_all is_ascii_digit ds ≡ true) (digits_value 10)
digits = numerals_by_value (λ ds. list_all is_ascii_digit ds ≡ true) (search rules)

abbrev at_most : ℕ → ℕ → Option ℕ
at_most greatest number = cond (nat_le number greatest) (Some number) None

within : (greatest number : ℕ) → number ≤ greatest → at_most greatest number ≡ Some number
within greatest number le =
    let is : nat_le number greatest ≡ true = grind (arith, nat_tests) in
    ap (λ b. cond b (Some number) None) is

above : (greatest number : ℕ) → (number ≤ greatest → ⊥) → at_most greatest number ≡ None
above greatest number more =
    let is : nat_le number greatest ≡ false = grind (arith, nat_tests) in
    ap (λ b. cond b (Some number) None) is

pub whole_number-digits : (d : ℕ) (ds : List ℕ) → list_all is_ascii_digit (d ∷ ds) ≡ true → whole_number (d ∷ ds) ≡ Some (digits_value 10 (d ∷ ds))
whole_number-digits d ds all =
    let is : is_whole_number (d ∷ ds) ≡ true = grind (arith, nat_tests) in
    ap (λ b. cond b (Some (digits_value 10 (d ∷ ds))) None) is

none_in : (greatest : ℕ) (text : List ℕ) → greatest < 2 ^ 64 → list_all is_ascii_digit text ≡ true → ((0 < length text) × (digits_value 10 text < 2 ^ 64) → ⊥) → None ≡ whole_number_up_to greatest text
none_in greatest [] small all fails = refl
none_in greatest (d ∷ ds) small all fails =
    let value = digits_value 10 (d ∷ ds) in
    sym (ap (option_and_then (at_most greatest)) (whole_number-digits d ds all) ∙ above greatest value (λ le. fails (omega arith, omega arith)))

module _ {E : Type 0} (greatest : ℕ) (small : greatest < 2 ^ 64) (text : List ℕ) (all : list_all is_ascii_digit text ≡ true) (r : Result ℕ E) (read : ParsesUnsigned 64 10 text r) where
  pub no_number_read : (e : E) → r ≡ Err e → None ≡ whole_number_up_to greatest text
  no_number_read e is =
      none_in greatest text small all (parse_digits digits 64 text (Err e) (subst (λ (q : Result ℕ E). ParsesUnsigned 64 10 text q) is read) all)

abbrev greatest_of_64_bits : ℕ
greatest_of_64_bits = 18446744073709551615

-- a text of at most 19 digits writes a number of 64 bits
short_value : (d : ℕ) (ds : List ℕ) → length (d ∷ ds) ≤ 19 → list_all is_ascii_digit (d ∷ ds) ≡ true → whole_number_up_to greatest_of_64_bits (d ∷ ds) ≡ whole_number (d ∷ ds)
short_value d ds few all =
    let value = digits_value 10 (d ∷ ds) in
    let small : value < 10 ^ 19 = digits_value_short digits (d ∷ ds) 19 all (omega arith) in
    let is = whole_number-digits d ds all in
    ap (option_and_then (at_most greatest_of_64_bits)) is ∙ within greatest_of_64_bits value (omega arith) ∙ sym is

no_value : (text : List ℕ) → list_all is_ascii_digit text ≡ false → whole_number text ≡ None
no_value text none =
    let is : is_whole_number text ≡ false = grind (arith, nat_tests) in
    ap (λ b. cond b (Some (digits_value 10 text)) None) is

short_fits : (text : List ℕ) (b : Bool) → list_all is_ascii_digit text ≡ b → length text ≤ 19 → whole_number_up_to greatest_of_64_bits text ≡ whole_number text
short_fits [] b is few = refl
short_fits (d ∷ ds) true is few = short_value d ds few is
short_fits (d ∷ ds) false is few = ap (option_and_then (at_most greatest_of_64_bits)) (no_value (d ∷ ds) is) ∙ sym (no_value (d ∷ ds) is)

pub short_number_read : (most : ℕ) (text : List ℕ) → length text ≤ most → most ≤ 19 → whole_number_up_to greatest_of_64_bits text ≡ short_whole_number most text
short_number_read most text le few =
    let is : nat_le (length text) most ≡ true = grind (arith, nat_tests) in
    short_fits text (list_all is_ascii_digit text) refl (omega arith) ∙ sym (ap (λ b. cond b (whole_number text) None) is)
