use Rattle.std.proofs.lemmas.Result.{IfOk-from_err}
use Rattle.relay_core.proofs.destination.Destination.connect.Goals as goal

pub returns-in_err-push-clause-act : goal.returns-in_err-push-clause-act
returns-in_err-push-clause-act c = IfOk-from_err _ _ c.from_residual.ensures.0
