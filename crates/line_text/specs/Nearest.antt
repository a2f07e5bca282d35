-- Rounding: the whole number nearest to a fraction, and the even one of two that are as near.
use Rattle.std.specs.Prelude.{◌≡◌, ℕ, ◌+◌, ◌*◌, ◌/◌, ◌%◌, ◌≤◌, Bool, true, nat_lt, ◌==◌, if◌then◌else◌}

abbrev pub is_even : ℕ → Bool
is_even n = n % 2 == 0

-- u is at most half away from numerator / denominator; if it is exactly half away, u is even
pub record IsNearest (numerator denominator u : ℕ) : Type 0 where
  pub not_above : 2 * u * denominator ≤ 2 * numerator + denominator
  pub not_below : 2 * numerator ≤ 2 * u * denominator + denominator
  pub half_above : 2 * u * denominator ≡ 2 * numerator + denominator → is_even u ≡ true
  pub half_below : 2 * numerator ≡ 2 * u * denominator + denominator → is_even u ≡ true

-- the same, computed from the quotient and twice the remainder

abbrev pub rounded : ℕ → ℕ → ℕ → ℕ
rounded quotient twice denominator =
    if nat_lt twice denominator then quotient
    else (if nat_lt denominator twice then quotient + 1 else quotient + quotient % 2)

abbrev pub nearest : ℕ → ℕ → ℕ
nearest numerator denominator =
    rounded (numerator / denominator) (2 * (numerator % denominator)) denominator
