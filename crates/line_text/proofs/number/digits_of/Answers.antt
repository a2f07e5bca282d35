use Rattle.std.proofs.Common.{ℕ, ◌+◌, ◌^◌, ◌≤◌, length, Some, None, if◌then◌else◌, lit<, arith, sym, ◌∙◌, ap}
use Rattle.std.proofs.Math.Nat.{pow-le-pow_right}
use Rattle.std.proofs.lemmas.Option.{cond_some, IfSome_then}
use Rattle.std.specs.List.{list_all}
use Rattle.std.specs.Char.{is_ascii_digit}
use Rattle.line_text.specs.Number.{most_digits, with_digits}
use Rattle.line_text.proofs.DigitLemmas.{room-both, read_in_turn}
use Rattle.line_text.proofs.number.digits_of.Goals as goal

pub with_digits-requires : goal.with_digits-requires
with_digits-requires c =
    let most : 10 ^ length c.args.whole.now ≤ 10 ^ most_digits = pow-le-pow_right (lit< tt) c.if-whole-gt-MOST_DIGITS.false in
    omega arith

pub with_digits-requires-2 : goal.with_digits-requires-2
with_digits-requires-2 c = room-both _ (length c.args.whole.now) (length c.args.fraction.now) c.in_ok-with_digits.ensures.within (omega arith)

pub returns-clause-digits : goal.returns-clause-digits
returns-clause-digits c =
    let whole = c.args.whole.now in
    let fraction = c.args.fraction.now in
    let first = cond_some (list_all is_ascii_digit whole) (with_digits 0 whole) _ (sym c.in_ok-with_digits.ensures.digits) in
    let some : 1 ≤ length whole + length fraction = omega arith in
    c.with_digits-2.ensures.digits
    ∙ ap (λ (n : ℕ). if list_all is_ascii_digit fraction then Some (with_digits n fraction) else None) (sym first.1)
    ∙ read_in_turn whole fraction some (omega arith) first.0

pub returns-clause-within : goal.returns-clause-within
returns-clause-within c =
    IfSome_then c.with_digits-2.result c.with_digits-2.ensures.within (λ n most. (
      omega (arith, most, room-both _ (length c.args.whole.now) (length c.args.fraction.now) c.in_ok-with_digits.ensures.within (omega arith)),
      omega arith,
    ))
