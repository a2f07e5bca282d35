use Rattle.std.proofs.Common.{◌≤◌, ◌++◌, ◌^◌, List, ℕ, length, lit<, ap, ◌∙◌, arith}
use Rattle.std.specs.Fmt.{decimal}
use Rattle.std.proofs.lemmas.Fmt.{length-decimal-le}
use Rattle.line_text.proofs.ReadBackLemmas.{value-written}
use Rattle.line_text.proofs.printed_value.append_value.Goals as goal

-- a whole part has at most 19 digits
abbrev whole_fits : (whole : ℕ) → whole ≤ 2 ^ 63 → length (decimal whole) ≤ 19
whole_fits whole within = length-decimal-le 19 whole (lit< tt) (omega arith) (omega arith)

pub append_fraction-requires-clause-room : goal.append_fraction-requires-clause-room
append_fraction-requires-clause-room c =
    let digits = whole_fits c.parts_of-parts.result.whole c.parts_of-parts.ensures.short in
    let printed = ap length c.format.ensures.text in
    omega (arith, digits, printed, c.append_sign.ensures.len, c.append_sign.ensures.capacity, c.append.ensures.len, c.append.ensures.capacity, c.requires)

pub returns-clause-items : goal.returns-clause-items
returns-clause-items c =
    let parts = c.parts_of-parts.ensures in
    value-written c.args.bytes.now.items c.append_sign.new.bytes.items c.append.new.bytes.items c.append_fraction.new.bytes.items c.format.result.now c.args.value
    c.parts_of-parts.result.is_negative c.parts_of-parts.result.whole c.parts_of-parts.result.fraction parts.sign parts.whole parts.fraction
    c.append_sign.ensures.items c.format.ensures.text
    (c.append.ensures.items ∙ ap (λ (text : List ℕ). c.append_sign.new.bytes.items ++ text) c.as_bytes.ensures.value) c.append_fraction.ensures.items

pub returns-clause-len : goal.returns-clause-len
returns-clause-len c =
    let digits = whole_fits c.parts_of-parts.result.whole c.parts_of-parts.ensures.short in
    let printed = ap length c.format.ensures.text in
    omega (arith, digits, printed, c.append_sign.ensures.len, c.append.ensures.len, c.append_fraction.ensures.len)
