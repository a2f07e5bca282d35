use Rattle.std.proofs.lemmas.Result.{IfOk-from_err}
use Rattle.relay_core.proofs.making.fresh_destinations.Goals as goal

pub returns-in_err-destinations : goal.returns-in_err-destinations
returns-in_err-destinations c = IfOk-from_err _ _ c.from_residual.ensures.0

pub returns-in_err-new : goal.returns-in_err-new
returns-in_err-new c = IfOk-from_err _ _ c.from_residual-in_err-new.ensures.0

pub returns-in_err-push : goal.returns-in_err-push
returns-in_err-push c = IfOk-from_err _ _ c.from_residual-in_err-push.ensures.0
