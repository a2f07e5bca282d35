use Rattle.relay_core.proofs.Isolation.{same_at}
use Rattle.relay_core.proofs.laws.isolated_of_any.Goals as goal

pub returns : goal.returns
returns c = λ reading orderly a b once_a once_b d in_a in_b agrees. same_at reading orderly a b d agrees once_a once_b in_a in_b
