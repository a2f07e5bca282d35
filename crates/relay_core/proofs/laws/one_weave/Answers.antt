use Rattle.relay_core.proofs.Weaving.{one_weave, weave_replays, same_takes}
use Rattle.relay_core.proofs.laws.one_weave.Goals as goal

pub returns-clause-state : goal.returns-clause-state
returns-clause-state c = λ size start history log a b of_a of_b. one_weave size start history log a b of_a of_b

pub returns-clause-queue : goal.returns-clause-queue
returns-clause-queue c = λ size start end history log steps is goes. weave_replays size start end history log steps is goes

pub returns-clause-takes : goal.returns-clause-takes
returns-clause-takes c = λ history log steps is. same_takes history log steps is
