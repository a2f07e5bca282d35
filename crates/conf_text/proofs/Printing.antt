-- A destination's text is cut at its colons into the parts that were printed.
use Rattle.std.proofs.Common.{◌≡◌, ℕ, ◌≤◌, Bool, true, false, cond, eqb, nat_le, ◌&&◌, List, [], ◌∷◌, ◌++◌, length, get_or, Option, Some, None, refl, ap, ◌∙◌, arith}
use Rattle.std.specs.Char.{is_ascii_digit}
use Rattle.std.specs.Fmt.{decimal}
use Rattle.std.specs.List.{All, list_all, slice_split}
use Rattle.std.specs.Option.{option_map, option_and_then}
use Rattle.std.specs.Str.Parse.{digits_value}
use Rattle.std.proofs.lemmas.Bool.{and_parts, and_from}
use Rattle.std.proofs.lemmas.Bool.Decides.{nat_tests}
use Rattle.std.proofs.lemmas.Fmt.{digits_decimal, digits_value-decimal, decimal_nonempty, length-decimal-le}
use Rattle.std.proofs.lemmas.List.{append-nil}
use Rattle.std.proofs.lemmas.List.Folds.{list_all_at}
use Rattle.std.proofs.lemmas.List.Splits.{slice_split_none, slice_split_at}
use Rattle.relay_base.specs.WholeNumber.{is_whole_number, whole_number, short_whole_number}
use Rattle.conf_text.specs.Destination.{Destination, IsDestination, is_label_byte, is_label, is_instance, port_of, destination, destination_of_parts, destination_of, destination_text, instance_text}
use Rattle.relay_base.proofs.WholeNumbers.{digits}

abbrev is_colon : ℕ → Bool
is_colon b = eqb b 58

-- a list all of whose bytes pass a test that a colon fails has no colon
no_colon : (p : ℕ → Bool) → ((b : ℕ) → p b ≡ true → is_colon b ≡ false) → (xs : List ℕ) → list_all p xs ≡ true → All (λ b. is_colon b ≡ false) xs
no_colon p apart xs all k d lt =
    let P : Bool → Type 0 = λ v. p (get_or xs k d) ≡ v → is_colon (get_or xs k d) ≡ false in
    let each : (v : Bool) → P v = λ v. elim v as P [ true ↦ λ h. apart (get_or xs k d) h | false ↦ λ h. let none = list_all_at p xs k d lt h in absurd cc ] in
    each (p (get_or xs k d)) refl

label_apart : (b : ℕ) → is_label_byte b ≡ true → is_colon b ≡ false
label_apart b h = grind (arith, nat_tests)

digit_apart : (b : ℕ) → is_ascii_digit b ≡ true → is_colon b ≡ false
digit_apart b h = grind (arith, nat_tests)

label_no_colon : (text : List ℕ) → is_label text ≡ true → All (λ b. is_colon b ≡ false) text
label_no_colon text h = no_colon is_label_byte label_apart text (and_parts (nat_le 1 (length text) && nat_le (length text) 255) (list_all is_label_byte text) h).1

port_no_colon : (n : ℕ) → n ≤ 65535 → All (λ b. is_colon b ≡ false) (decimal n)
port_no_colon n le = no_colon is_ascii_digit digit_apart (decimal n) (digits_decimal digits n (omega arith))

short_whole_number-decimal : (n : ℕ) → n ≤ 65535 → short_whole_number 5 (decimal n) ≡ Some n
short_whole_number-decimal n le =
    let some = decimal_nonempty n (omega arith) in
    let short = length-decimal-le 5 n (omega arith) (omega arith) (omega arith) in
    let fits : nat_le (length (decimal n)) 5 ≡ true = grind (arith, nat_tests) in
    let least : nat_le 1 (length (decimal n)) ≡ true = grind (arith, nat_tests) in
    let is : is_whole_number (decimal n) ≡ true = and_from (nat_le 1 (length (decimal n))) (list_all is_ascii_digit (decimal n)) least (digits_decimal digits n (omega arith)) in
    ap (λ b. cond b (whole_number (decimal n)) None) fits
    ∙ ap (λ b. cond b (Some (digits_value 10 (decimal n))) None) is
    ∙ ap (λ (v : ℕ). Some v) (digits_value-decimal digits n (omega arith))

port_of-decimal : (n : ℕ) → 1 ≤ n → n ≤ 65535 → port_of (decimal n) ≡ Some n
port_of-decimal n ge le =
    let ends : (nat_le 1 n && nat_le n 65535) ≡ true = grind (arith, nat_tests) in
    ap (option_and_then (λ m. cond (nat_le 1 m && nat_le m 65535) (Some m) None)) (short_whole_number-decimal n le) ∙ ap (λ b. cond b (Some n) None) ends

made_again : (d : Destination) → IsDestination d → destination d.host (decimal d.port) d.instance ≡ Some d
made_again d is =
    let labels = and_from (is_label d.host) (is_instance d.instance) is.host is.instance in
    ap (λ b. cond b (option_map (λ n. record { host = d.host; port = n; instance = d.instance }) (port_of (decimal d.port))) None) labels
    ∙ ap (option_map (λ n. record { host = d.host; port = n; instance = d.instance })) (port_of-decimal d.port is.least_port is.greatest_port)

behind_port : (n : ℕ) (instance : Option (List ℕ)) → n ≤ 65535 → is_instance instance ≡ true → (host : List ℕ) → destination_of_parts (host ∷ slice_split is_colon (decimal n ++ instance_text instance)) ≡ destination host (decimal n) instance
behind_port n None le is host =
    let one : slice_split is_colon (decimal n ++ []) ≡ decimal n ∷ [] = ap (slice_split is_colon) (append-nil (decimal n)) ∙ slice_split_none is_colon (decimal n) (port_no_colon n le) in
    ap (λ (ps : List (List ℕ)). destination_of_parts (host ∷ ps)) one
behind_port n (Some text) le is host =
    let two : slice_split is_colon (decimal n ++ 58 ∷ text) ≡ decimal n ∷ text ∷ [] = slice_split_at is_colon (decimal n) 58 text (port_no_colon n le) refl ∙ ap (λ (ps : List (List ℕ)). decimal n ∷ ps) (slice_split_none is_colon text (label_no_colon text is)) in
    ap (λ (ps : List (List ℕ)). destination_of_parts (host ∷ ps)) two

pub printed_is_read : (d : Destination) → IsDestination d → destination_of (destination_text d) ≡ Some d
unfolding destination_of
printed_is_read d is =
    let first : slice_split is_colon (destination_text d) ≡ d.host ∷ slice_split is_colon (decimal d.port ++ instance_text d.instance) = slice_split_at is_colon d.host 58 (decimal d.port ++ instance_text d.instance) (label_no_colon d.host is.host) refl in
    ap destination_of_parts first ∙ behind_port d.port d.instance is.greatest_port is.instance d.host ∙ made_again d is
