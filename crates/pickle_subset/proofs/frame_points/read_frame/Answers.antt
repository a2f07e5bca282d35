use Rattle.std.proofs.lemmas.Result.{IfOk-from_err}
use Rattle.pickle_subset.proofs.frame_points.read_frame.Goals as goal

pub returns-in_err-bad_rows-in-Ok-clause-bad : goal.returns-in_err-bad_rows-in-Ok-clause-bad
returns-in_err-bad_rows-in-Ok-clause-bad g c = IfOk-from_err _ _ c.from_residual.ensures.0

pub returns-in_err-bad_rows-in-Ok-clause-bad_rows : goal.returns-in_err-bad_rows-in-Ok-clause-bad_rows
returns-in_err-bad_rows-in-Ok-clause-bad_rows g c = IfOk-from_err _ _ c.from_residual.ensures.0
