use Rattle.std.proofs.Common.{◌≤◌, ◌^◌, ℕ, Bool, true, false, length, lit<, ap, arith}
use mir.Val.{bool_byte}
use Rattle.std.specs.Fmt.{decimal}
use Rattle.std.proofs.lemmas.Fmt.{length-decimal-le}
use Rattle.line_text.proofs.printed_value.printed_length.Goals as goal

-- a whole part has at most 19 digits
abbrev whole_fits : (whole : ℕ) → whole ≤ 2 ^ 63 → length (decimal whole) ≤ 19
whole_fits whole within = length-decimal-le 19 whole (lit< tt) (omega arith) (omega arith)

sign_fits : (minus : Bool) → bool_byte minus ≤ 1
sign_fits true = omega arith
sign_fits false = omega arith

pub returns-clause-short : goal.returns-clause-short
returns-clause-short c =
    let digits = whole_fits c.parts_of-parts.result.whole c.parts_of-parts.ensures.short in
    let printed = ap length c.format-whole.ensures.text in
    omega (arith, digits, printed, c.from.ensures, sign_fits c.parts_of-parts.result.is_negative, c.fraction_length.ensures.short)
