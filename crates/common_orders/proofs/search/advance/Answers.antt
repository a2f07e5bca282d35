use Rattle.std.proofs.lemmas.Result.{IfOk-from_err}
use Rattle.common_orders.proofs.search.advance.Goals as goal

-- ---- the number could not be added to what is ready

pub returns-in_err-push_if_free-clause-list : goal.returns-in_err-push_if_free-clause-list
returns-in_err-push_if_free-clause-list c = IfOk-from_err _ _ c.from_residual.ensures.0

pub returns-in_err-push_if_free-clause-waits : goal.returns-in_err-push_if_free-clause-waits
returns-in_err-push_if_free-clause-waits c = IfOk-from_err _ _ c.from_residual.ensures.0

pub returns-in_err-push_if_free-clause-ready_before : goal.returns-in_err-push_if_free-clause-ready_before
returns-in_err-push_if_free-clause-ready_before c = IfOk-from_err _ _ c.from_residual.ensures.0

pub returns-in_err-push_if_free-clause-ready_first : goal.returns-in_err-push_if_free-clause-ready_first
returns-in_err-push_if_free-clause-ready_first c = IfOk-from_err _ _ c.from_residual.ensures.0

pub returns-in_err-push_if_free-clause-ready_all : goal.returns-in_err-push_if_free-clause-ready_all
returns-in_err-push_if_free-clause-ready_all c = IfOk-from_err _ _ c.from_residual.ensures.0

pub returns-in_err-push_if_free-clause-fewer : goal.returns-in_err-push_if_free-clause-fewer
returns-in_err-push_if_free-clause-fewer c = IfOk-from_err _ _ c.from_residual.ensures.0

pub returns-in_err-push_if_free-clause-there : goal.returns-in_err-push_if_free-clause-there
returns-in_err-push_if_free-clause-there c = IfOk-from_err _ _ c.from_residual.ensures.0

pub returns-in_err-push_if_free-clause-nowhere : goal.returns-in_err-push_if_free-clause-nowhere
returns-in_err-push_if_free-clause-nowhere c = IfOk-from_err _ _ c.from_residual.ensures.0
