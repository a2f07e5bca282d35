use Rattle.relay_core.proofs.RunsOfOrder.{has_all}
use Rattle.relay_core.proofs.laws.one_run_of_any.Goals as goal

pub returns : goal.returns
returns c = λ reading orderly configuration l order agrees. has_all reading orderly configuration l order agrees
