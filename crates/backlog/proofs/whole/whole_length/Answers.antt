use Rattle.std.proofs.Common.{◌-◌, ◌==◌, length, ap, ◌∙◌, arith}
use Rattle.relay_base.specs.Ascii.{newline}
use Rattle.backlog.proofs.LinesLemmas.{ended-at}
use Rattle.backlog.proofs.whole.whole_length.Goals as goal

pub returns-then-text-place-eq10 : goal.returns-then-text-place-eq10
returns-then-text-place-eq10 c =
    let text = c.args.text.now in
    let passed = c.loop-passed.passed in
    omega (arith, c.loop-passed-test.true)
    ∙ ended-at text (length text - 1 - passed) (length text - passed) (omega (arith, c.loop-passed-test.true)) (omega (arith, c.loop-passed-test.true)) c.loop-passed.invariant (ap (λ n. n == newline) c.if-text-place-eq10.true)
