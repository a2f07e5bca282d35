use Rattle.std.proofs.Common.{◌≤◌, ◌+◌, ◌*◌, ◌^◌, arith, lit<}
use Rattle.std.proofs.Math.Nat.{mul-le-mul_right, pow-le-pow_right}
use Rattle.line_text.specs.Number.{most_digits}
use Rattle.line_text.proofs.powers.product.Goals as goal

pub returns-then-places-gt-MOST_DIGITS-clause-none : goal.returns-then-places-gt-MOST_DIGITS-clause-none
returns-then-places-gt-MOST_DIGITS-clause-none c = λ _.
    let some : 1 ≤ c.args.digits = omega arith in
    let many : most_digits + 1 ≤ c.args.places = omega arith in
    let grown : 1 * 10 ^ c.args.places ≤ c.args.digits * 10 ^ c.args.places = mul-le-mul_right (10 ^ c.args.places) some in
    let most : 10 ^ (most_digits + 1) ≤ 10 ^ c.args.places = pow-le-pow_right (lit< tt) many in
    omega (arith, grown, most)
