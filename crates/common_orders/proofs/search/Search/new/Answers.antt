use Rattle.std.proofs.lemmas.Result.{IfOk-from_err}
use Rattle.common_orders.proofs.search.Search.new.Goals as goal

pub returns-in_err-left-clause-left : goal.returns-in_err-left-clause-left
returns-in_err-left-clause-left c = IfOk-from_err _ _ c.from_residual.ensures.0

pub returns-in_err-left-clause-waits : goal.returns-in_err-left-clause-waits
returns-in_err-left-clause-waits c = IfOk-from_err _ _ c.from_residual.ensures.0

pub returns-in_err-left-clause-ready : goal.returns-in_err-left-clause-ready
returns-in_err-left-clause-ready c = IfOk-from_err _ _ c.from_residual.ensures.0

pub returns-in_err-raise_rests-clause-left : goal.returns-in_err-raise_rests-clause-left
returns-in_err-raise_rests-clause-left c = IfOk-from_err _ _ c.from_residual-in_err-raise_rests.ensures.0

pub returns-in_err-raise_rests-clause-waits : goal.returns-in_err-raise_rests-clause-waits
returns-in_err-raise_rests-clause-waits c = IfOk-from_err _ _ c.from_residual-in_err-raise_rests.ensures.0

pub returns-in_err-raise_rests-clause-ready : goal.returns-in_err-raise_rests-clause-ready
returns-in_err-raise_rests-clause-ready c = IfOk-from_err _ _ c.from_residual-in_err-raise_rests.ensures.0

pub returns-in_err-ready-clause-left : goal.returns-in_err-ready-clause-left
returns-in_err-ready-clause-left c = IfOk-from_err _ _ c.from_residual-in_err-ready.ensures.0

pub returns-in_err-ready-clause-waits : goal.returns-in_err-ready-clause-waits
returns-in_err-ready-clause-waits c = IfOk-from_err _ _ c.from_residual-in_err-ready.ensures.0

pub returns-in_err-ready-clause-ready : goal.returns-in_err-ready-clause-ready
returns-in_err-ready-clause-ready c = IfOk-from_err _ _ c.from_residual-in_err-ready.ensures.0
