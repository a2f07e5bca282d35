use Rattle.std.proofs.lemmas.Result.{err_from_is_err_and, IfErr-weaker}
use Rattle.std.proofs.Common.{inl}
use Rattle.relay_commands.proofs.AnswerLemmas.{name_fails}
use Rattle.relay_commands.proofs.route_command.route_line.Goals as goal

pub returns-in_err-configuration-clause-err : goal.returns-in_err-configuration-clause-err
returns-in_err-configuration-clause-err g c =
    let p = err_from_is_err_and c.from_residual.result c.from_residual.ensures.1 in
    let read = c.in_err-configuration.ensures.err in
    rw (p.1, p.2) (read.0, read.1, inl read.2)

pub returns-clause-err : goal.returns-clause-err
returns-clause-err g c =
    let read = c.in_ok-configuration.ensures.ok in
    IfErr-weaker c.line_under-line.result _ _ (λ fault is. (read.0, read.1, name_fails _ _ read.0 _ read.2 _ fault is)) c.line_under-line.ensures.err
