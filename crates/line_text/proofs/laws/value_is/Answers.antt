use Rattle.line_text.proofs.ValueLemmas.{IsValueOf-from, value_of-from}
use Rattle.line_text.proofs.laws.value_is.Goals as goal

pub returns : goal.returns
returns c = λ d v. (IsValueOf-from d v, value_of-from d v)
