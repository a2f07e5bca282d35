use Rattle.std.proofs.Common.{◌<◌, ◌≤◌, arith, ◌∙◌}
use Rattle.line_text.proofs.DigitLemmas.{BeginsWith-more, begins_small}
use Rattle.line_text.proofs.short.leading_digits.Goals as goal

pub overflow_mul-number : goal.overflow_mul-number
overflow_mul-number c =
    let few : c.loop-len.len < 19 = omega (arith, c.loop-len-test.true, c.requires) in
    omega (arith, begins_small c.loop-len.len c.loop-len.number 0 few c.loop-len.invariant.room (omega arith))

pub overflow_add-number : goal.overflow_add-number
overflow_add-number c =
    let few : c.loop-len.len < 19 = omega (arith, c.loop-len-test.true, c.requires) in
    let within : c.from.result ≤ 9 = omega (arith, c.from.ensures, c.in-Some.ensures.within) in
    omega (arith, begins_small c.loop-len.len c.loop-len.number c.from.result few c.loop-len.invariant.room within)

pub loop-len-preserved : goal.loop-len-preserved
loop-len-preserved c =
    let read = c.in-Some.ensures in
    BeginsWith-more c.args.text.now c.loop-len.len c.loop-len.number c.from.result c.loop-len-test.true c.loop-len.invariant read.value.0 (c.from.ensures ∙ read.value.1)
    (omega (arith, c.from.ensures, read.within))
