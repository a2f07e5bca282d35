use Rattle.std.proofs.lemmas.Result.{IfOk-from_err}
use Rattle.replay.proofs.script_line.piece_in.Goals as goal

pub returns-in_err-bytes : goal.returns-in_err-bytes
returns-in_err-bytes c = IfOk-from_err _ _ c.from_residual.ensures.0
