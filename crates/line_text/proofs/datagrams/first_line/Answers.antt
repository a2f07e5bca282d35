use Rattle.std.proofs.Common.{sym}
use Rattle.line_text.proofs.DatagramLemmas.{lines-first, lines-last}
use Rattle.line_text.proofs.datagrams.first_line.Goals as goal

pub returns-in_err-place_of_break-clause-line : goal.returns-in_err-place_of_break-clause-line
returns-in_err-place_of_break-clause-line c = rw c.from_residual.ensures (λ moment. lines-last c.args.text.now moment (sym c.in_err-place_of_break.ensures.place))

pub returns-clause-line : goal.returns-clause-line
returns-clause-line c = λ moment. rw (c.line_to.ensures.text, c.line_to.ensures.rest) (lines-first c.args.text.now moment _ (sym c.in_ok-place_of_break.ensures.place))
