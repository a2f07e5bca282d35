use Rattle.std.proofs.lemmas.Result.{err_from_is_err_and}
use Rattle.relay_files.proofs.run_configuration.RunConfiguration.read.Goals as goal

pub returns-in_err-settings-clause-err : goal.returns-in_err-settings-clause-err
returns-in_err-settings-clause-err g c =
    let p = err_from_is_err_and c.from_residual.result c.from_residual.ensures.1 in
    rw (p.1, p.2) c.in_err-settings.ensures.err

pub returns-clause-ok : goal.returns-clause-ok
returns-clause-ok g c = rw c.in_ok-settings.ensures.made c.in_ok-settings.ensures.ok

pub returns-clause-destinations : goal.returns-clause-destinations
returns-clause-destinations g c = rw c.in_ok-settings.ensures.made c.in_ok-settings.ensures.destinations

pub returns-clause-routes : goal.returns-clause-routes
returns-clause-routes g c =
    rw c.in_ok-settings.ensures.made c.drop_plan.ensures
