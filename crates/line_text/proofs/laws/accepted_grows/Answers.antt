use Rattle.line_text.proofs.ConnectionLemmas.{accepted_points-grows}
use Rattle.line_text.proofs.laws.accepted_grows.Goals as goal

pub returns : goal.returns
returns c = λ a b. accepted_points-grows a b
