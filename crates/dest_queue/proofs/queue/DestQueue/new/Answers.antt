use Rattle.std.proofs.lemmas.Result.{IfOk-from_err}
use Rattle.dest_queue.proofs.queue.DestQueue.new.Goals as goal

pub returns-in_err-current-clause-size : goal.returns-in_err-current-clause-size
returns-in_err-current-clause-size c = IfOk-from_err _ _ c.from_residual.ensures.0

pub returns-in_err-current-clause-empty : goal.returns-in_err-current-clause-empty
returns-in_err-current-clause-empty c = IfOk-from_err _ _ c.from_residual.ensures.0

pub returns-in_err-current-clause-base : goal.returns-in_err-current-clause-base
returns-in_err-current-clause-base c = IfOk-from_err _ _ c.from_residual.ensures.0

pub returns-in_err-current-clause-history : goal.returns-in_err-current-clause-history
returns-in_err-current-clause-history c = IfOk-from_err _ _ c.from_residual.ensures.0

pub returns-in_err-past-clause-size : goal.returns-in_err-past-clause-size
returns-in_err-past-clause-size c = IfOk-from_err _ _ c.from_residual-in_err-past.ensures.0

pub returns-in_err-past-clause-empty : goal.returns-in_err-past-clause-empty
returns-in_err-past-clause-empty c = IfOk-from_err _ _ c.from_residual-in_err-past.ensures.0

pub returns-in_err-past-clause-base : goal.returns-in_err-past-clause-base
returns-in_err-past-clause-base c = IfOk-from_err _ _ c.from_residual-in_err-past.ensures.0

pub returns-in_err-past-clause-history : goal.returns-in_err-past-clause-history
returns-in_err-past-clause-history c = IfOk-from_err _ _ c.from_residual-in_err-past.ensures.0
