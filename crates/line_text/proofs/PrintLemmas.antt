-- The digits that a number is printed with, and their reading.
use Rattle.std.proofs.Common.{◌≡◌, ℕ, zero, suc, ◌+◌, ◌-◌, ◌*◌, ◌/◌, ◌%◌, ◌^◌, ◌<◌, ◌≤◌, inl, inr, Bool, true, false, not, cond, List, [], ◌∷◌, ◌++◌, length, Some, None, refl, ap, sym, subst, ◌∙◌, arith, append_assoc}
use Rattle.std.proofs.lemmas.List.{append-nil}
use Rattle.std.specs.Prelude.{◌==◌}
use Rattle.std.proofs.lemmas.Nat.{pow-add, div_below, div-mul-add, mod-mul-add}
use Rattle.std.proofs.Math.Nat.{pow-suc, mod-add-div, mod-lt, mul-le-mul_right}
use Rattle.std.specs.List.{list_all, position_or_len, position}
use Rattle.std.specs.Char.{is_ascii_digit}
use Rattle.std.specs.Fmt.{decimal}
use Rattle.std.proofs.lemmas.Bool.{cases_Bool, and_parts, and_from, leb-true, le-leb, le-ltb, eqb-true, eqb-false, ne_eqb}
use Rattle.std.proofs.lemmas.List.Folds.{list_all-append}
use Rattle.std.proofs.lemmas.Fmt.{decimal_by_steps}
use Rattle.line_text.specs.Number.{whole_of, with_digits, IsAfterWhole}
use Rattle.line_text.specs.Value.{units_of_one}
use Rattle.line_text.specs.Print.{digits_after_point, printed_fraction}
use Rattle.line_text.proofs.DigitLemmas.{with_digits-append, power_positive}

-- ---- bytes of digits

pub record IsDigit (b : ℕ) : Type 0 where
  pub low : 48 ≤ b
  pub high : b ≤ 57

pub digit_is : (b : ℕ) → is_ascii_digit b ≡ true → IsDigit b
digit_is b is =
    let parts = and_parts _ _ is in
    record { low = leb-true 48 b parts.0; high = leb-true b 57 parts.1 }

is_digit : (b : ℕ) → 48 ≤ b → b ≤ 57 → is_ascii_digit b ≡ true
is_digit b low high = and_from _ _ (le-leb 48 b low) (le-leb b 57 high)

-- ---- the digits of a number write it

pub record AreDigitsOf (n : ℕ) (digits : List ℕ) : Type 0 where
  pub all : list_all is_ascii_digit digits ≡ true
  pub value : whole_of digits ≡ n

one_digit : (n : ℕ) → n < 10 → AreDigitsOf n ((48 + n) ∷ [])
one_digit n small = record {
  all = and_from _ _ (is_digit (48 + n) (omega arith) (omega arith)) refl;
  value = omega arith;
}

more_digits : (n : ℕ) (digits : List ℕ) → 10 ≤ n → AreDigitsOf (n / 10) digits → AreDigitsOf n (digits ++ ((48 + n % 10) ∷ []))
more_digits n digits large front = record {
  all = list_all-append is_ascii_digit digits ((48 + n % 10) ∷ []) ∙ and_from _ _ front.all (and_from _ _ (is_digit (48 + n % 10) (omega arith) (omega arith)) refl);
  value =
      let last : whole_of digits * 10 + (48 + n % 10 - 48) ≡ n = omega (arith, front.value) in
      with_digits-append 0 digits ((48 + n % 10) ∷ []) ∙ last;
}

pub decimal_digits : (n : ℕ) → n < 2 ^ 64 → AreDigitsOf n (decimal n)
decimal_digits n small = decimal_by_steps AreDigitsOf one_digit more_digits n small

-- ---- what no digits contain

pub no_place : (p q : ℕ → Bool) → ((b : ℕ) → q b ≡ true → p b ≡ false) → (text : List ℕ) → list_all q text ≡ true → position p text ≡ None
no_place p q apart text all =
    ap (λ (t : Bool). cond t (Some (position_or_len p text)) None) (le-ltb (position_or_len p text) (length text) (omega (arith, all_pass text all)))
  where
    all_pass : (rest : List ℕ) → list_all q rest ≡ true → position_or_len p rest ≡ length rest
    all_pass [] all' = refl
    all_pass (b ∷ rest) all' =
        let parts = and_parts (q b) (list_all q rest) all' in
        let first = ap (λ (t : Bool). cond (not t) (1 + position_or_len p rest) 0) (apart b parts.0) in
        let others = all_pass rest parts.1 in
        omega (arith, first, others)

-- ---- the digits of a fraction

-- read after a number, they are the number and this part of 10^places
pub record AreFractionOf (places part number : ℕ) (digits : List ℕ) : Type 0 where
  pub zeros : ℕ
  pub count : zeros + length digits ≡ places
  pub all : list_all is_ascii_digit digits ≡ true
  pub value : with_digits number digits * 10 ^ zeros ≡ number * 10 ^ places + part

-- the first digit, and then the others
with_first_digit : (p part number : ℕ) → part < 10 ^ suc p
    → AreFractionOf p (part % 10 ^ p) (number * 10 + part / 10 ^ p) (digits_after_point p (part % 10 ^ p))
    → AreFractionOf (suc p) part number ((48 + part / 10 ^ p) ∷ digits_after_point p (part % 10 ^ p))
with_first_digit p part number small others =
    let unit : 10 ^ suc p ≡ 10 ^ p * 10 = pow-suc 10 p in
    let digit : part / 10 ^ p < 10 = div_below part (10 ^ p) 10 (power_positive p) (omega (arith, small, unit)) in
    let shown : 48 + part / 10 ^ p - 48 ≡ part / 10 ^ p = omega arith in
    let whole : part % 10 ^ p + part / 10 ^ p * 10 ^ p ≡ part = omega (arith, mod-add-div part (10 ^ p)) in
    let grown : (number * 10 + part / 10 ^ p) * 10 ^ p + part % 10 ^ p ≡ number * (10 ^ p * 10) + part = omega (arith, whole) in
    record {
      zeros = others.zeros;
      count = omega (arith, others.count);
      all = and_from _ _ (is_digit (48 + part / 10 ^ p) (omega arith) (omega (arith, digit))) others.all;
      value =
          ap (λ (d : ℕ). with_digits (number * 10 + d) (digits_after_point p (part % 10 ^ p)) * 10 ^ others.zeros) shown
          ∙ others.value
          ∙ grown
          ∙ ap (λ (u : ℕ). number * u + part) (sym unit);
    }

pub fraction_digits : (places part number : ℕ) → part < 10 ^ places → AreFractionOf places part number (digits_after_point places part)
unfolding digits_after_point
fraction_digits zero part number small = record { zeros = 0; count = refl; all = refl; value = omega arith }
fraction_digits (suc p) part number small =
    let others = fraction_digits p (part % 10 ^ p) (number * 10 + part / 10 ^ p) (mod-lt part (power_positive p)) in
    elim (cases_Bool (part == 0)) [
      | inl none ↦
          let is = eqb-true part 0 none in
          let empty : digits_after_point (suc p) part ≡ [] = ap (λ (b : Bool). cond b [] ((48 + part / 10 ^ p) ∷ digits_after_point p (part % 10 ^ p))) none in
          subst (AreFractionOf (suc p) part number) (sym empty) (record { zeros = suc p; count = omega arith; all = refl; value = omega (arith, is) })
      | inr some ↦
          let chosen : digits_after_point (suc p) part ≡ (48 + part / 10 ^ p) ∷ digits_after_point p (part % 10 ^ p)
          = ap (λ (b : Bool). cond b [] ((48 + part / 10 ^ p) ∷ digits_after_point p (part % 10 ^ p))) some in
          subst (AreFractionOf (suc p) part number) (sym chosen) (with_first_digit p part number small others)
    ]

-- what is printed after the whole part is nothing, or a point and these digits
pub fraction_after_whole : (part : ℕ) → IsAfterWhole (printed_fraction part) (digits_after_point 10 part)
unfolding digits_after_point
fraction_after_whole part =
    elim (cases_Bool (part == 0)) [
      | inl none ↦
          let empty : digits_after_point 10 part ≡ [] = ap (λ (b : Bool). cond b [] ((48 + part / 10 ^ 9) ∷ digits_after_point 9 (part % 10 ^ 9))) none in
          subst (λ (rest : List ℕ). IsAfterWhole rest (digits_after_point 10 part)) (sym (ap (λ (b : Bool). cond b [] (46 ∷ digits_after_point 10 part)) none)) empty
      | inr some ↦
          subst (λ (rest : List ℕ). IsAfterWhole rest (digits_after_point 10 part)) (sym (ap (λ (b : Bool). cond b [] (46 ∷ digits_after_point 10 part)) some)) (refl, refl)
    ]

-- ---- the digits of a fraction, one after another

-- what is left of a fraction after its first digits: a part of a power of ten, as units
pub record IsRest (places rest : ℕ) : Type 0 where
  pub part : ℕ
  pub left : ℕ
  pub count : places + left ≡ 10
  pub is : rest ≡ part * 10 ^ places
  pub small : part < 10 ^ left

-- the digits that are left
abbrev pub rest_digits : {places rest : ℕ} → IsRest places rest → List ℕ
rest_digits r = digits_after_point r.left r.part

-- at first all is left
abbrev pub all_is_left : (fraction : ℕ) → fraction < units_of_one → IsRest 0 fraction
all_is_left fraction small = record { part = fraction; left = 10; count = refl; is = omega arith; small = small }

-- one digit more
pub record OneDigitLess (places rest : ℕ) (r : IsRest places rest) : Type 0 where
  pub next : IsRest (places + 1) (rest * 10 % units_of_one)
  pub digits : rest_digits r ≡ (48 + rest * 10 / units_of_one) ∷ rest_digits next
  pub digit : rest * 10 / units_of_one < 10
  pub few : places < 10

mul-below : (a b c : ℕ) → 0 < c → a < b → a * c < b * c
mul-below a b c some h =
    let grown : (a + 1) * c ≤ b * c = mul-le-mul_right c (omega (arith, h)) in
    omega (arith, grown, some)

-- quotient and rest, if both numbers have a common factor
record CommonFactor (n d u : ℕ) : Type 0 where
  quotient : n * u / (d * u) ≡ n / d
  rest : n * u % (d * u) ≡ n % d * u

common_factor : (n d u : ℕ) → 0 < d → 0 < u → CommonFactor n d u
common_factor n d u some_d some_u =
    let whole : n ≡ n / d * d + n % d = omega (arith, mod-add-div n d) in
    let grown : n * u ≡ (n / d * d + n % d) * u = ap (λ (x : ℕ). x * u) whole in
    let moved : n * u ≡ n / d * (d * u) + n % d * u = omega (arith, grown) in
    let small = mul-below (n % d) d u some_u (mod-lt n some_d) in
    record {
      quotient = ap (λ (x : ℕ). x / (d * u)) moved ∙ div-mul-add (n / d) (d * u) (n % d * u) small;
      rest = ap (λ (x : ℕ). x % (d * u)) moved ∙ mod-mul-add (n / d) (d * u) (n % d * u) small;
    }

first_digit : (p part : ℕ) → (part ≡ 0 → ⊥) → digits_after_point (suc p) part ≡ (48 + part / 10 ^ p) ∷ digits_after_point p (part % 10 ^ p)
unfolding digits_after_point
first_digit p part some = ap (λ (b : Bool). cond b [] ((48 + part / 10 ^ p) ∷ digits_after_point p (part % 10 ^ p))) (ne_eqb part 0 some)

one_digit_less : (places rest part left : ℕ) (count : places + left ≡ 10) (is : rest ≡ part * 10 ^ places) (small : part < 10 ^ left) → (rest ≡ 0 → ⊥)
    → OneDigitLess places rest (record { part = part; left = left; count = count; is = is; small = small })
one_digit_less places rest part zero count is small some = absurd (some nothing)
  where
    nothing : rest ≡ 0
    nothing =
        let none : part ≡ 0 = omega (arith, small) in
        is ∙ ap (λ (n : ℕ). n * 10 ^ places) none ∙ (omega arith)
one_digit_less places rest part (suc p) count is small some = record {
  next = record { part = part % 10 ^ p; left = p; count = omega (arith, count); is = next_rest; small = mod-lt part (power_positive p) };
  digits = first_digit p part some_part ∙ ap (λ (d : ℕ). (48 + d) ∷ digits_after_point p (part % 10 ^ p)) (sym next_digit);
  digit = subst (λ (d : ℕ). d < 10) (sym next_digit) (div_below part (10 ^ p) 10 (power_positive p) (omega (arith, small, pow-suc 10 p)));
  few = omega (arith, count);
}
  where
    some_part : part ≡ 0 → ⊥
    some_part none = some (is ∙ ap (λ (n : ℕ). n * 10 ^ places) none ∙ (omega arith))

    unit : 10 ^ p * 10 ^ (places + 1) ≡ units_of_one
    unit =
        let all : p + (places + 1) ≡ 10 = omega (arith, count) in
        sym (pow-add 10 p (places + 1)) ∙ ap (λ (n : ℕ). 10 ^ n) all

    moved : rest * 10 ≡ part * 10 ^ (places + 1)
    moved =
        let grown : 10 ^ (places + 1) ≡ 10 ^ places * 10 = pow-add 10 places 1 in
        let both : part * 10 ^ (places + 1) ≡ part * (10 ^ places * 10) = ap (λ (n : ℕ). part * n) grown in
        omega (arith, both, is)

    common : CommonFactor part (10 ^ p) (10 ^ (places + 1))
    common = common_factor part (10 ^ p) (10 ^ (places + 1)) (power_positive p) (power_positive (places + 1))

    next_digit : rest * 10 / units_of_one ≡ part / 10 ^ p
    next_digit = ap (λ (n : ℕ). n / units_of_one) moved ∙ ap (λ (u : ℕ). part * 10 ^ (places + 1) / u) (sym unit) ∙ common.quotient

    next_rest : rest * 10 % units_of_one ≡ part % 10 ^ p * 10 ^ (places + 1)
    next_rest = ap (λ (n : ℕ). n % units_of_one) moved ∙ ap (λ (u : ℕ). part * 10 ^ (places + 1) % u) (sym unit) ∙ common.rest

pub IsRest-more : (places rest : ℕ) (r : IsRest places rest) → (rest ≡ 0 → ⊥) → OneDigitLess places rest r
IsRest-more places rest r some = one_digit_less places rest r.part r.left r.count r.is r.small some

-- no digits are left of nothing
digits_of_nothing : (left : ℕ) → digits_after_point left 0 ≡ []
unfolding digits_after_point
digits_of_nothing zero = refl
digits_of_nothing (suc left) = refl

pub IsRest-done : (places rest : ℕ) (r : IsRest places rest) → rest ≡ 0 → rest_digits r ≡ []
IsRest-done places rest r none =
    elim (cases_Bool (r.part == 0)) [
      | inl no_part ↦ ap (digits_after_point r.left) (eqb-true r.part 0 no_part) ∙ digits_of_nothing r.left
      | inr part ↦ absurd (too_small (eqb-false r.part 0 part))
    ]
  where
    too_small : (r.part ≡ 0 → ⊥) → ⊥
    too_small some =
        let grown : 1 * 10 ^ places ≤ r.part * 10 ^ places = mul-le-mul_right (10 ^ places) (omega (arith, some)) in
        omega (arith, grown, r.is, none, power_positive places)

-- a loop that appends the digits has appended those before what is left
pub record HasWritten (old new : List ℕ) (fraction places rest : ℕ) : Type 0 where
  pub rest_is : IsRest places rest
  pub items : old ++ digits_after_point 10 fraction ≡ new ++ rest_digits rest_is

pub HasWritten-more : (old new longer : List ℕ) (fraction places rest byte : ℕ) → HasWritten old new fraction places rest → (rest ≡ 0 → ⊥) → byte ≡ 48 + rest * 10 / units_of_one → longer ≡ new ++ byte ∷ []
    → HasWritten old longer fraction (places + 1) (rest * 10 % units_of_one)
HasWritten-more old new longer fraction places rest byte written some is appended =
    let less = IsRest-more places rest written.rest_is some in
    let behind = rest_digits less.next in
    record {
      rest_is = less.next;
      items =
          written.items
          ∙ ap (λ (digits : List ℕ). new ++ digits) (less.digits ∙ ap (λ (b : ℕ). b ∷ behind) (sym is))
          ∙ sym (append_assoc new (byte ∷ []) behind)
          ∙ ap (λ (front : List ℕ). front ++ behind) (sym appended);
    }

pub HasWritten-all : (old new : List ℕ) (fraction places rest : ℕ) → HasWritten old new fraction places rest → rest ≡ 0 → new ≡ old ++ digits_after_point 10 fraction
HasWritten-all old new fraction places rest written none =
    sym (written.items ∙ ap (λ (digits : List ℕ). new ++ digits) (IsRest-done places rest written.rest_is none) ∙ append-nil new)

-- a loop that counts the digits has counted those before what is left
pub record HasCounted (fraction places rest : ℕ) : Type 0 where
  pub rest_is : IsRest places rest
  pub count : length (digits_after_point 10 fraction) ≡ places + length (rest_digits rest_is)

pub HasCounted-more : (fraction places rest : ℕ) → HasCounted fraction places rest → (rest ≡ 0 → ⊥) → HasCounted fraction (places + 1) (rest * 10 % units_of_one)
HasCounted-more fraction places rest counted some =
    let less = IsRest-more places rest counted.rest_is some in
    record { rest_is = less.next; count = omega (arith, counted.count, ap length less.digits) }

pub HasCounted-all : (fraction places rest : ℕ) → HasCounted fraction places rest → rest ≡ 0 → places ≡ length (digits_after_point 10 fraction)
HasCounted-all fraction places rest counted none =
    omega (arith, counted.count, ap length (IsRest-done places rest counted.rest_is none))

-- there are at most ten digits
pub places-few : (places rest : ℕ) → IsRest places rest → (rest ≡ 0 → ⊥) → places < 10
places-few places rest r some = (IsRest-more places rest r some).few
