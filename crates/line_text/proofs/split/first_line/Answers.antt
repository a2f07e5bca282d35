use Rattle.std.proofs.Common.{sym}
use Rattle.line_text.proofs.CutLemmas.{cut-no_place, cut-place}
use Rattle.line_text.proofs.split.first_line.Goals as goal

pub returns-in_err-place_of_newline-clause-line : goal.returns-in_err-place_of_newline-clause-line
returns-in_err-place_of_newline-clause-line c = rw c.from_residual.ensures (λ moment. cut-no_place c.args.text.now moment (sym c.in_err-place_of_newline.ensures.place))

pub returns-clause-line : goal.returns-clause-line
returns-clause-line c = λ moment. rw (c.line_to.ensures.text, c.line_to.ensures.rest) (cut-place c.args.text.now moment _ (sym c.in_ok-place_of_newline.ensures.place))
