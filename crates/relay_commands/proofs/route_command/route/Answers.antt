use Rattle.std.proofs.lemmas.Result.{err_from_is_err_and}
use Rattle.std.proofs.Common.{inl}
use Rattle.relay_files.proofs.BytesLemmas.{Keeps-self}
use Rattle.relay_commands.proofs.route_command.route.Goals as goal

pub returns-in_err-line-clause-fault : goal.returns-in_err-line-clause-fault
returns-in_err-line-clause-fault g c =
    let p = err_from_is_err_and c.from_residual.result c.from_residual.ensures.1 in
    let line = c.in_err-line.ensures.err in
    rw (p.1, p.2) (line.0, line.1, inl (line.2, Keeps-self _))
