use Rattle.std.proofs.Common.{◌≤◌, length, arith, ◌∙◌}
use Rattle.line_text.proofs.DigitLemmas.{HasRead-more, room-at}
use Rattle.line_text.proofs.short.more_digits.Goals as goal

pub overflow_mul-number : goal.overflow_mul-number
overflow_mul-number c =
    let room = room-at c.loop-b.number 0 (length c.args.digits.now) c.loop-b.b-index _ c.loop-b-test.true (omega arith) c.loop-b.invariant.room in
    omega (arith, room.1)

pub overflow_add-number : goal.overflow_add-number
overflow_add-number c =
    let within : c.from.result ≤ 9 = omega (arith, c.in_ok-digit_of.ensures.within) in
    let room = room-at c.loop-b.number c.from.result (length c.args.digits.now) c.loop-b.b-index _ c.loop-b-test.true within c.loop-b.invariant.room in
    omega (arith, room.1)

pub loop-b-preserved : goal.loop-b-preserved
loop-b-preserved c =
    let read = c.in_ok-digit_of.ensures in
    HasRead-more c.args.digits.now c.loop-b.b-index c.loop-b.number _ _ c.from.result c.loop-b-test.true c.loop-b.invariant read.value.0 (c.from.ensures ∙ read.value.1)
    (omega (arith, c.from.ensures, read.within))
