use Rattle.line_text.proofs.ValueLemmas.{value-order}
use Rattle.line_text.proofs.laws.value_keeps_order.Goals as goal

pub returns : goal.returns
returns c = λ d e u v order is is'. value-order d e u v order is is'
