use Rattle.std.proofs.lemmas.Result.{err_from_is_err_and, IfErr-weaker}
use Rattle.std.proofs.Common.{inl, inr}
use Rattle.relay_files.proofs.BytesLemmas.{Keeps-self}
use Rattle.relay_run.proofs.RunEndings.{fails-at_start}
use Rattle.relay_run.proofs.run_command.run.Goals as goal

-- the files have a fault
pub returns-in_err-configuration-clause-err : goal.returns-in_err-configuration-clause-err
returns-in_err-configuration-clause-err g c =
    let p = err_from_is_err_and c.from_residual.result c.from_residual.ensures.1 in
    let read = c.in_err-configuration.ensures.err in
    rw (p.1, p.2) (read.0, read.1, inl (read.2, Keeps-self _))

-- a port of their configuration cannot be bound, or memory ran out
pub returns-in-Err-clause-err : goal.returns-in-Err-clause-err
returns-in-Err-clause-err g c =
    let read = c.in_ok-configuration.ensures.ok in
    (read.0, read.1, inr (_, read.2, inl (fails-at_start _ _ _ c.in-Err.ensures)))

-- the run of their configuration has a fault
pub returns-in-Ok-clause-err : goal.returns-in-Ok-clause-err
returns-in-Ok-clause-err g c =
    let read = c.in_ok-configuration.ensures.ok in
    IfErr-weaker c.run_all.result _ _ (λ fault fails. (read.0, read.1, inr (_, read.2, fails))) c.run_all.ensures.err
