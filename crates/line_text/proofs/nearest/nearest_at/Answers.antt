use Rattle.std.proofs.Common.{◌≤◌, ◌+◌, ◌^◌, arith, sym, lit<}
use Rattle.std.proofs.Math.Nat.{pow-le-pow_right}
use Rattle.line_text.specs.Number.{most_digits}
use Rattle.line_text.proofs.NearestLemmas.{nearest-small}
use Rattle.line_text.proofs.nearest.nearest_at.Goals as goal

-- with more places than digits, less than a half is left
pub returns-then-places-gt-MOST_DIGITS : goal.returns-then-places-gt-MOST_DIGITS
returns-then-places-gt-MOST_DIGITS c =
    let many : most_digits + 1 ≤ c.args.places = omega arith in
    let most : 10 ^ (most_digits + 1) ≤ 10 ^ c.args.places = pow-le-pow_right (lit< tt) many in
    sym (nearest-small c.args.digits (10 ^ c.args.places) (omega (arith, most, c.requires)))
