-- The time that a number denotes, in seconds.
use Rattle.std.specs.Prelude.{ℕ, ◌+◌, ◌*◌, ◌/◌, ◌<◌, ◌≤◌, nat_le, ◌==◌, if◌then◌else◌, Option, Some, None}
use Rattle.line_text.specs.Number.{Decimal}
use Rattle.line_text.specs.Value.{magnitude, scale, is_below_zero}

-- two to the power 53
abbrev pub last_time : ℕ
last_time = 9007199254740992

-- t is the greatest whole number that the magnitude reaches
pub record IsWholePart (d : Decimal) (t : ℕ) : Type 0 where
  pub reached : t * scale d ≤ magnitude d
  pub greatest : magnitude d < (t + 1) * scale d

-- the same, computed
abbrev pub whole_part : Decimal → ℕ
whole_part d = magnitude d / scale d

-- below zero: a whole part of 0 is 0, and one of 1 the moment
abbrev pub time_below_zero : ℕ → ℕ → Option ℕ
time_below_zero whole moment =
    if whole == 0 then Some 0 else (if whole == 1 then Some moment else None)

abbrev pub time_from_zero : ℕ → Option ℕ
time_from_zero whole = if nat_le whole last_time then Some whole else None

abbrev pub time_of : Decimal → ℕ → Option ℕ
time_of d moment =
    if is_below_zero d
    then time_below_zero (whole_part d) moment
    else time_from_zero (whole_part d)
