use Rattle.std.proofs.lemmas.Result.{IfOk-from_err}
use Rattle.replay.proofs.run_text.with_counts.Goals as goal

pub returns-in_err-pairs : goal.returns-in_err-pairs
returns-in_err-pairs c = IfOk-from_err _ _ c.from_residual.ensures.0

pub returns-in_err-dest : goal.returns-in_err-dest
returns-in_err-dest c = IfOk-from_err _ _ c.from_residual-in_err-dest.ensures.0

pub returns-in_err-push : goal.returns-in_err-push
returns-in_err-push c = IfOk-from_err _ _ c.from_residual-in_err-push.ensures.0
