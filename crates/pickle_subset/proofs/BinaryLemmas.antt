-- Powers of two beside a significand.
use Rattle.std.proofs.Common.{◌≡◌, ℕ, ◌*◌, ◌/◌, ◌^◌, ◌<◌, ◌≤◌, inl, inr, min, lit<, arith, sym, ap, ◌∙◌}
use Rattle.std.proofs.lemmas.Bool.{cases_lt}
use Rattle.line_text.specs.Nearest.{nearest}
use Rattle.line_text.specs.Value.{units_of_one}
use Rattle.line_text.proofs.NearestLemmas.{nearest-small}
use Rattle.std.proofs.Math.Nat.{mul-le-mul_left, mul-le-mul_right, pow-le-pow_right, div-eq_of_lt}

power_above : (least places : ℕ) → least ≤ places → 2 ^ least ≤ 2 ^ places
power_above least places many = pow-le-pow_right (lit< tt) many

-- moved by more places than it has bits, nothing of it is left before the point
div-all : (significand places : ℕ) → significand < 2 ^ 53 → 53 ≤ places → significand / 2 ^ places ≡ 0
div-all significand places few many = div-eq_of_lt (omega (arith, power_above 53 places many))

-- so a move by more places gives what a move by that many gives
pub div-most : (significand places : ℕ) → significand < 2 ^ 53 → significand / 2 ^ min places 53 ≡ significand / 2 ^ places
div-most significand places few =
    elim (cases_lt places 53) [
      | inl less ↦ let same : min places 53 ≡ places = omega arith in ap (λ (k : ℕ). significand / 2 ^ k) same
      | inr many ↦
          let most : min places 53 ≡ 53 = omega arith in
          ap (λ (k : ℕ). significand / 2 ^ k) most ∙ div-all significand 53 few (omega arith) ∙ sym (div-all significand places few many)
    ]

pub past_room : (significand places : ℕ) → 2 ^ 52 ≤ significand → 12 ≤ places → 2 ^ 64 ≤ significand * 2 ^ places
past_room significand places first many =
    let grown : 2 ^ 52 * 2 ^ places ≤ significand * 2 ^ places = mul-le-mul_right (2 ^ places) first in
    let most : 2 ^ 52 * 2 ^ 12 ≤ 2 ^ 52 * 2 ^ places = mul-le-mul_left (2 ^ 52) (power_above 12 places many) in
    omega arith

pub in_room : (significand places : ℕ) → significand < 2 ^ 53 → places ≤ 11 → significand * 2 ^ places < 2 ^ 64
in_room significand places few some =
    let most : significand * 2 ^ places ≤ significand * 2 ^ 11 = mul-le-mul_left significand (power_above places 11 some) in
    omega arith

-- and nothing of its units, not half of one
pub units-none : (significand places : ℕ) → significand < 2 ^ 53 → 87 < places → nearest (significand * units_of_one) (2 ^ places) ≡ 0
units-none significand places few many =
    nearest-small (significand * units_of_one) (2 ^ places) (omega (arith, power_above 88 places (omega arith)))
