-- Digits that are read one after another, and the room that their number has.
use Rattle.std.proofs.Common.{◌≡◌, ℕ, suc, ◌+◌, ◌-◌, ◌*◌, ◌/◌, ◌%◌, ◌^◌, ◌<◌, ◌≤◌, Bool, true, ◌&&◌, List, [], ◌∷◌, ◌++◌, length, get_or, take, drop, if◌then◌else◌, Some, None, lit<, refl, ap, sym, ◌∙◌, subst, arith}
use Rattle.std.proofs.Math.Nat.{pow-suc, mul-le-mul_left, mul-le-mul_right, one-le-pow, pow-le-pow_right, div-eq_of_lt, mod-eq_of_lt}
use Rattle.std.proofs.lemmas.Nat.{pow-add}
use Rattle.std.proofs.lemmas.Bool.{le-leb, and_from}
use Rattle.std.proofs.lemmas.List.Folds.{list_all-append}
use Rattle.std.specs.List.{list_all}
use Rattle.std.specs.Char.{is_ascii_digit}
use Rattle.std.proofs.lemmas.List.{at_drop_more, take_more}
use Rattle.line_text.specs.Number.{most_digits, with_digits, whole_of, are_digits}

pub with_digits-append : (n : ℕ) (a b : List ℕ) → with_digits n (a ++ b) ≡ with_digits (with_digits n a) b
with_digits-append n [] b = refl
with_digits-append n (x ∷ a) b = with_digits-append (n * 10 + (x - 48)) a b

-- a digit is accepted
pub list_all-passed : (digits : List ℕ) (i : ℕ) → i < length digits → is_ascii_digit (get_or digits i 0) ≡ true → list_all is_ascii_digit (drop (i + 1) digits) ≡ list_all is_ascii_digit (drop i digits)
list_all-passed digits i inside passes =
    sym (at_drop_more (list_all is_ascii_digit) digits i 0 inside ∙ ap (λ (b : Bool). b && list_all is_ascii_digit (drop (i + 1) digits)) passes)

-- one digit more, if there is room for it and for m after it
pub room-more : (n d m top : ℕ) → d ≤ 9 → (n + 1) * 10 ^ (suc m) ≤ top → (n * 10 + d + 1) * 10 ^ m ≤ top
room-more n d m top digit room =
    let e : 10 ^ suc m ≡ 10 ^ m * 10 = pow-suc 10 m in
    let roomy : (n + 1) * (10 ^ m * 10) ≤ top = subst (λ (p : ℕ). (n + 1) * p ≤ top) e room in
    let step : (n * 10 + d + 1) * 10 ^ m ≤ ((n + 1) * 10) * 10 ^ m = mul-le-mul_right (10 ^ m) (omega arith) in
    omega arith

-- what there is room for, with more after it, is in the room
pub in_room : (n m top : ℕ) → (n + 1) * 10 ^ m ≤ top → n + 1 ≤ top
in_room n m top room =
    let positive : 1 ≤ 10 ^ m = one-le-pow m 10 (omega arith) in
    let grown : (n + 1) * 1 ≤ (n + 1) * 10 ^ m = mul-le-mul_left (n + 1) positive in
    omega arith

-- the same, at a place in digits
pub room-at : (n d k i top : ℕ) → i < k → d ≤ 9 → (n + 1) * 10 ^ (k - i) ≤ top → ((n * 10 + d + 1) * 10 ^ (k - (i + 1)) ≤ top) × (n * 10 + d + 1 ≤ top)
room-at n d k i top inside digit room =
    let e : k - i ≡ suc (k - (i + 1)) = omega arith in
    let roomy : (n + 1) * 10 ^ suc (k - (i + 1)) ≤ top = subst (λ (x : ℕ). (n + 1) * 10 ^ x ≤ top) e room in
    let more : (n * 10 + d + 1) * 10 ^ (k - (i + 1)) ≤ top = room-more n d (k - (i + 1)) top digit roomy in
    (more, in_room (n * 10 + d) (k - (i + 1)) top more)

-- this number of digits has given a number: what is left gives what all gave, and there is room for
-- it
pub record HasRead (text : List ℕ) (place number all top : ℕ) : Type 0 where
  pub digits : list_all is_ascii_digit (drop place text) ≡ list_all is_ascii_digit text
  pub value : with_digits number (drop place text) ≡ all
  pub room : (number + 1) * 10 ^ (length text - place) ≤ top

-- one digit more
pub HasRead-more : (digits : List ℕ) (place number all top digit : ℕ) → place < length digits → HasRead digits place number all top
    → is_ascii_digit (get_or digits place 0) ≡ true → digit ≡ get_or digits place 0 - 48 → digit ≤ 9 → HasRead digits (place + 1) (number * 10 + digit) all top
HasRead-more digits place number all top digit inside read passes is within = record {
  digits = list_all-passed digits place inside passes ∙ read.digits;
  value = rw is (sym (at_drop_more (with_digits number) digits place 0 inside) ∙ read.value);
  room = (room-at number digit (length digits) place top inside within read.room).0;
}

-- digits after digits, if both fit
pub room-both : (n a b : ℕ) → n + 1 ≤ 1 * 10 ^ a → a + b ≤ most_digits → (n + 1) * 10 ^ b ≤ 10 ^ most_digits
room-both n a b first fits =
    let grown : (n + 1) * 10 ^ b ≤ (1 * 10 ^ a) * 10 ^ b = mul-le-mul_right (10 ^ b) first in
    let joined : 10 ^ (a + b) ≡ 10 ^ a * 10 ^ b = pow-add 10 a b in
    let most : 10 ^ (a + b) ≤ 10 ^ most_digits = pow-le-pow_right (lit< tt) fits in
    omega arith

-- the digits on both sides of a point, read in turn
pub read_in_turn : (whole fraction : List ℕ) → 1 ≤ length whole + length fraction → length whole + length fraction ≤ most_digits → list_all is_ascii_digit whole ≡ true → (if list_all is_ascii_digit fraction then Some (with_digits (with_digits 0 whole) fraction) else None) ≡ (if are_digits whole fraction then Some (whole_of (whole ++ fraction)) else None)
read_in_turn whole fraction some fits digits =
    rw (le-leb 1 (length whole + length fraction) some, le-leb (length whole + length fraction) most_digits fits, digits, with_digits-append 0 whole fraction) refl

pub power_within : (places : ℕ) → places ≤ most_digits → 10 ^ places ≤ 10 ^ most_digits
power_within places few = pow-le-pow_right (lit< tt) few

-- more places than there are digits are more than they write
pub power_above : (places : ℕ) → most_digits ≤ places → 10 ^ most_digits ≤ 10 ^ places
power_above places many = pow-le-pow_right (lit< tt) many

pub power_positive : (places : ℕ) → 0 < 10 ^ places
power_positive places = one-le-pow places 10 (lit< tt)

-- moved by more places than there are digits, nothing is before the point
pub div-all : (digits places : ℕ) → digits < 10 ^ most_digits → most_digits ≤ places → digits / 10 ^ places ≡ 0
div-all digits places few many = div-eq_of_lt (omega (arith, power_above places many))

pub mod-all : (digits places : ℕ) → digits < 10 ^ most_digits → most_digits ≤ places → digits % 10 ^ places ≡ digits
mod-all digits places few many = mod-eq_of_lt (omega (arith, power_above places many))

-- ---- the digits that a text begins with

pub record BeginsWith (text : List ℕ) (place number : ℕ) : Type 0 where
  pub digits : list_all is_ascii_digit (take place text) ≡ true
  pub value : number ≡ whole_of (take place text)
  pub room : number < 10 ^ place
  pub within : place ≤ length text

pub BeginsWith-more : (text : List ℕ) (place number digit : ℕ) → place < length text → BeginsWith text place number
    → is_ascii_digit (get_or text place 0) ≡ true → digit ≡ get_or text place 0 - 48 → digit ≤ 9 → BeginsWith text (place + 1) (number * 10 + digit)
BeginsWith-more text place number digit inside begins passes is within =
    let longer : take (place + 1) text ≡ take place text ++ get_or text place 0 ∷ [] = take_more text place 0 inside in
    let unit : 10 ^ (place + 1) ≡ 10 ^ place * 10 = pow-add 10 place 1 in
    record {
      digits = ap (list_all is_ascii_digit) longer ∙ list_all-append is_ascii_digit (take place text) (get_or text place 0 ∷ []) ∙ and_from _ _ begins.digits (and_from _ _ passes refl);
      value =
          let last : number * 10 + digit ≡ whole_of (take place text) * 10 + (get_or text place 0 - 48) = omega (arith, begins.value, is) in
          last ∙ sym (ap whole_of longer ∙ with_digits-append 0 (take place text) (get_or text place 0 ∷ []));
      room = omega (arith, unit, begins.room, within);
      within = omega (arith, inside);
    }

-- up to 19 digits fit 64 bits
pub begins_small : (place number digit : ℕ) → place < 19 → number < 10 ^ place → digit ≤ 9 → number * 10 + digit < 2 ^ 64
begins_small place number digit few room within =
    let at_most : place ≤ 18 = omega (arith, few) in
    let most : 10 ^ place ≤ 10 ^ 18 = pow-le-pow_right (lit< tt) at_most in
    omega (arith, most, room, within)

-- digits after digits, if both are at most 18
pub room-short : (n a b : ℕ) → n < 10 ^ a → a + b ≤ 18 → (n + 1) * 10 ^ b ≤ 10 ^ 18
room-short n a b first fits =
    let grown : (n + 1) * 10 ^ b ≤ 10 ^ a * 10 ^ b = mul-le-mul_right (10 ^ b) (omega (arith, first)) in
    let joined : 10 ^ (a + b) ≡ 10 ^ a * 10 ^ b = pow-add 10 a b in
    let most : 10 ^ (a + b) ≤ 10 ^ 18 = pow-le-pow_right (lit< tt) fits in
    omega arith
