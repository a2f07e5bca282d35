use Rattle.line_text.proofs.ReadBackLemmas.{printed_value-whole}
use Rattle.line_text.proofs.laws.whole_is_printed.Goals as goal

pub returns : goal.returns
returns c = λ n. printed_value-whole n
