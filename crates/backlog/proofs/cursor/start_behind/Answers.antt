use Rattle.std.proofs.Common.{arith}
use Rattle.std.proofs.lemmas.List.{length-append}
use Rattle.backlog.proofs.LinesLemmas.{length_then-begun, length_then-lines, whole-length}
use Rattle.backlog.proofs.cursor.start_behind.Goals as goal

pub returns-then-whole-gt0 : goal.returns-then-whole-gt0
returns-then-whole-gt0 c = λ base before start next fits.
    let taken = c.args.taken.now in
    omega (arith, c.saturating_add.ensures, c.whole_length-whole.ensures, c.if-whole-gt0.true, length_then-lines before taken (omega (arith, c.whole_length-whole.ensures, c.if-whole-gt0.true)), whole-length taken, length-append before taken, next, fits)

pub returns-else-whole-gt0 : goal.returns-else-whole-gt0
returns-else-whole-gt0 c = λ base before start next fits.
    let taken = c.args.taken.now in
    omega (arith, c.whole_length-whole.ensures, c.if-whole-gt0.false, length_then-begun before taken (omega (arith, c.whole_length-whole.ensures, c.if-whole-gt0.false)), start)
