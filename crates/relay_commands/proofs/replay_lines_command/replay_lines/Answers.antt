use Rattle.std.proofs.lemmas.Result.{err_from_is_err_and}
use Rattle.std.proofs.Common.{inl}
use Rattle.relay_files.proofs.BytesLemmas.{Keeps-self}
use Rattle.relay_commands.proofs.replay_lines_command.replay_lines.Goals as goal

pub returns-in_err-text-clause-fault : goal.returns-in_err-text-clause-fault
returns-in_err-text-clause-fault g c =
    let p = err_from_is_err_and c.from_residual.result c.from_residual.ensures.1 in
    let text = c.in_err-text.ensures.err in
    rw (p.1, p.2) (text.0, text.1, (text.2.0, text.2.1, inl (text.2.2, Keeps-self _)))
