use Rattle.std.proofs.Common.{◌≡◌, ◌-◌, ℕ, List, length, take, drop, subst, arith}
use Rattle.std.proofs.lemmas.List.{take_all, length-drop}
use Rattle.line_text.specs.Number.{IsAfterWhole}
use Rattle.line_text.proofs.DigitLemmas.{room-short}
use Rattle.line_text.proofs.ReadBackLemmas.{number_of-short}
use Rattle.line_text.proofs.short.short_decimal.Goals as goal

pub more_digits-requires : goal.more_digits-requires
more_digits-requires c =
    room-short c.leading_digits-whole.result.number c.leading_digits-whole.result.len (length c.in_ok-fraction.fraction.now) c.leading_digits-whole.ensures.room (omega arith)

pub returns : goal.returns
returns c =
    let whole = c.leading_digits-whole.ensures in
    let read = c.in_ok-digits.ensures.digits in
    let unsigned = c.without_sign-unsigned.result.now in
    let len = c.leading_digits-whole.result.len in
    let rest : take (length unsigned - len) (drop len unsigned) ≡ drop len unsigned = take_all (length unsigned - len) (drop len unsigned) (omega (arith, length-drop len unsigned)) in
    let after = subst (λ (l : List ℕ). IsAfterWhole l c.in_ok-fraction.fraction.now) rest c.in_ok-fraction.ensures in
    number_of-short c.args.text.now c.without_sign-unsigned.result.now c.in_ok-fraction.fraction.now c.is_minus.result c.leading_digits-whole.result.len c.leading_digits-whole.result.number c.in_ok-digits.digits
    c.without_sign-unsigned.ensures c.is_minus.ensures whole.digits whole.number whole.within after read.0 read.1 (omega arith) (omega arith)
