use Rattle.line_text.proofs.ReadBackLemmas.{printed_line-is_one_line}
use Rattle.line_text.proofs.laws.one_line.Goals as goal

pub returns : goal.returns
returns c = λ p is. printed_line-is_one_line p is
