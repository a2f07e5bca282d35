use Rattle.line_text.proofs.ValueLemmas.{IsWholePart-from, whole_part-from}
use Rattle.line_text.proofs.laws.whole_part_is.Goals as goal

pub returns : goal.returns
returns c = λ d t. (IsWholePart-from d t, whole_part-from d t)
