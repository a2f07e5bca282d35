use Rattle.std.proofs.Common.{sym, ap}
use Rattle.std.proofs.lemmas.Result.{err_from_is_err_and}
use Rattle.relay_files.specs.Configuration.{plan_or_none}
use Rattle.relay_files.proofs.FileLemmas.{plan_is}
use Rattle.relay_files.proofs.FaultLemmas.{rules_remade, rewrite_remade, plan_remade}
use Rattle.relay_files.proofs.run_configuration.RunConfiguration.plan.Goals as goal

pub returns-in_ok-new-in-Ok-clause-plan : goal.returns-in_ok-new-in-Ok-clause-plan
returns-in_ok-new-in-Ok-clause-plan c =
    rw (← c.self.view_is) (sym (ap plan_or_none (plan_is c.self.inside.settings _ _ c.in_ok-rules.rules c.in-Ok.rewrite c.in_ok-new-in-Ok.field-0
    (rw (← c.destinations.ensures.list) c.in_ok-rules.ensures.ok) c.in-Ok.ensures.ok c.in_ok-new-in-Ok.ensures.plan)))

pub returns-in_err-rules-clause-err : goal.returns-in_err-rules-clause-err
returns-in_err-rules-clause-err c =
    let p = err_from_is_err_and c.from_residual.result c.from_residual.ensures.1 in
    rw (p.1, p.2) (rules_remade c.self.inside.settings _ _ c.self.invariant _ (rw (← c.destinations.ensures.list) c.in_err-rules.ensures.err))

pub returns-in_err-new-in-Ok-clause-err : goal.returns-in_err-new-in-Ok-clause-err
returns-in_err-new-in-Ok-clause-err c =
    let p = err_from_is_err_and c.from_residual-in_err-new-in-Ok.result c.from_residual-in_err-new-in-Ok.ensures.1 in
    rw (p.1, p.2) (plan_remade c.self.inside.settings _ _ c.self.invariant c.in_ok-rules.rules (rw (← c.destinations.ensures.list) c.in_ok-rules.ensures.ok)
    c.in-Ok.rewrite c.in-Ok.ensures.ok c.in_err-new-in-Ok.field-0.0 c.in_err-new-in-Ok.ensures.plan)

pub returns-in-Err-clause-err : goal.returns-in-Err-clause-err
returns-in-Err-clause-err c =
    rewrite_remade c.self.inside.settings _ _ c.self.invariant c.in_ok-rules.rules (rw (← c.destinations.ensures.list) c.in_ok-rules.ensures.ok)
    c.in-Err.fault c.in-Err.ensures.err
