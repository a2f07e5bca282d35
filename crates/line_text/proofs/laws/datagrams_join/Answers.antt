use Rattle.line_text.proofs.DatagramLemmas.{accepted_points-join}
use Rattle.line_text.proofs.laws.datagrams_join.Goals as goal

pub returns : goal.returns
returns c = λ before after b moment ends. accepted_points-join before after b moment ends
