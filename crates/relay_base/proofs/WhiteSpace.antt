-- A text may be cut where its white space ends or begins, since white space is ASCII.
use Rattle.std.proofs.Common.{◌≡◌, ℕ, ◌+◌, ◌-◌, ◌<◌, ◌≤◌, Bool, true, false, not, List, reverse, length, get_or, Some, None, cond, ltb, sym, subst, arith, inl, inr}
use Rattle.std.specs.List.{position, position_or_len}
use Rattle.std.proofs.lemmas.Bool.{cases_lt}
use Rattle.std.proofs.lemmas.Bool.Decides.{nat_tests}
use Rattle.std.proofs.lemmas.List.{get_or-reverse, length-reverse}
use Rattle.std.proofs.lemmas.List.Sums.{fails_before_first, prefix_len-le-length}
use Rattle.std.proofs.lemmas.Str.{IsCharBoundary-after_ascii, IsCharBoundary-before_ascii, IsCharBoundary-end}
use Rattle.std.specs.Str.{IsUtf8, IsCharBoundary}
use Rattle.relay_base.specs.White.{is_white, is_not_white, leading_white}

white_is_ascii : (b : ℕ) → not (is_white b) ≡ false → b < 128
white_is_ascii b h = grind (arith, nat_tests)

-- a place that was found is the first
position_is : (p : ℕ → Bool) (xs : List ℕ) (n : ℕ) → Some n ≡ position p xs → position_or_len p xs ≡ n
position_is p xs n e =
    let P : Bool → Type 0 = λ b. Some n ≡ cond b (Some (position_or_len p xs)) None → position_or_len p xs ≡ n in
    let each : (b : Bool) → P b = λ b. elim b as P [ true ↦ λ h. cc | false ↦ λ h. absurd cc ] in
    each (ltb (position_or_len p xs) (length xs)) e

leading_white-le : (text : List ℕ) → leading_white text ≤ length text
leading_white-le text = prefix_len-le-length (λ x. not (is_not_white x)) text

-- each byte of the white space at the start is ASCII
leading_is_ascii : (text : List ℕ) (k : ℕ) → k < leading_white text → get_or text k 0 < 128
leading_is_ascii text k lt = white_is_ascii (get_or text k 0) (fails_before_first is_not_white text k 0 lt)

pub boundary_after : (text : List ℕ) (n : ℕ) → IsUtf8 text → Some n ≡ position is_not_white text → 0 < n → IsCharBoundary text n
boundary_after text n utf8 found some =
    let e = position_is is_not_white text n found in
    let le = leading_white-le text in
    let last = leading_is_ascii text (n - 1) (omega arith) in
    let here : n - 1 + 1 ≡ n = omega arith in
    subst (IsCharBoundary text) here (IsCharBoundary-after_ascii text (n - 1) utf8 (omega arith) last)

boundary_before_at : (text : List ℕ) (i n : ℕ) → n ≡ leading_white (reverse text) → n ≤ length text → i + n ≡ length text → 0 < n → IsCharBoundary text i
boundary_before_at text i n e le at some =
    let same = get_or-reverse text (n - 1) 0 (omega arith) in
    let first = leading_is_ascii (reverse text) (n - 1) (omega arith) in
    let here : length text - 1 - (n - 1) ≡ i = omega arith in
    let ascii : get_or text i 0 < 128 = subst (λ k. get_or text k 0 < 128) here (subst (λ b. b < 128) same first) in
    IsCharBoundary-before_ascii text i (omega arith) ascii

trailing_white-le : (text : List ℕ) → leading_white (reverse text) ≤ length text
trailing_white-le text = omega (arith, leading_white-le (reverse text), length-reverse text)

pub boundary_before : (text : List ℕ) (n : ℕ) → Some n ≡ position is_not_white (reverse text) → IsCharBoundary text (length text - n)
boundary_before text n found =
    let e = position_is is_not_white (reverse text) n found in
    let le = trailing_white-le text in
    elim (cases_lt 0 n) [
      | inl some ↦ boundary_before_at text (length text - n) n (sym e) (omega arith) (omega arith) some
      | inr none ↦ let all : length text ≡ length text - n = omega arith in subst (IsCharBoundary text) all (IsCharBoundary-end text)
    ]
