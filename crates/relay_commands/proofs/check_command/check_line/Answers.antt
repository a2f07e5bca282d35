use Rattle.std.proofs.lemmas.Result.{err_from_is_err_and}
use Rattle.std.proofs.Common.{refl}
use Rattle.relay_files.specs.Faults.{AtAnswer}
use Rattle.relay_commands.proofs.check_command.check_line.Goals as goal

pub returns-in_err-line-clause-err : goal.returns-in_err-line-clause-err
returns-in_err-line-clause-err g c =
    let p = err_from_is_err_and c.from_residual-in_err-line.result c.from_residual-in_err-line.ensures.1 in
    let read = c.in_ok-configuration.ensures.ok in
    rw (p.1, p.2) (read.0, read.1, AtAnswer _ read.2 refl)
