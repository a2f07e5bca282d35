use Rattle.line_text.proofs.ValueLemmas.{value-exact_law}
use Rattle.line_text.proofs.laws.value_is_exact.Goals as goal

pub returns : goal.returns
returns c = λ d u few is. value-exact_law d u few is
