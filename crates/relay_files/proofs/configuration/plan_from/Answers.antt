use Rattle.std.proofs.lemmas.Result.{err_from_is_err_and}
use Rattle.std.proofs.Common.{refl}
use Rattle.relay_files.specs.Configuration.{file_of}
use Rattle.relay_files.specs.Faults.{AtRules, AtRewrite, AtPlan}
use Rattle.relay_files.proofs.FaultLemmas.{plan_fails}
use Rattle.relay_files.proofs.FileLemmas.{unopened, others_end, others_say, plan_is}
use Rattle.relay_files.proofs.configuration.plan_from.Goals as goal

pub returns-in_err-rules-clause-err : goal.returns-in_err-rules-clause-err
returns-in_err-rules-clause-err g c =
    let p = err_from_is_err_and c.from_residual.result c.from_residual.ensures.1 in
    let bytes = g.S.Source.bytes in
    rw (p.1, p.2) (others_end bytes _ _ c.args.settings.now _ _ _ c.in_err-rules.ensures.err (unopened bytes c.args.sources.now.rewrite)
    (λ _ _ _ config rules _. AtRules c.args.settings.now config (rw (← c.destinations.ensures.list) rules) refl))

pub returns-in-Err-clause-err : goal.returns-in-Err-clause-err
returns-in-Err-clause-err g c =
    others_end g.S.Source.bytes _ _ c.args.settings.now _ _ _ c.in_ok-rules.ensures.ok c.in-Err.ensures.err
    (λ _ _ _ config rules rewrite. AtRewrite c.args.settings.now c.in_ok-rules.relay_rules config (rw (← c.destinations.ensures.list) rules.0) rewrite)

pub returns-in_err-plan-in-Ok-clause-err : goal.returns-in_err-plan-in-Ok-clause-err
returns-in_err-plan-in-Ok-clause-err g c =
    let p = err_from_is_err_and c.from_residual-in_err-plan-in-Ok.result c.from_residual-in_err-plan-in-Ok.ensures.1 in
    rw (p.1, p.2) (others_end g.S.Source.bytes _ _ c.args.settings.now _ _ _ c.in_ok-rules.ensures.ok c.in-Ok.ensures.ok
    (λ _ _ _ config rules rewrite.
    AtPlan c.args.settings.now c.in_ok-rules.relay_rules c.in-Ok.rewrite_rules config (rw (← c.destinations.ensures.list) rules.0) rewrite.0
    (plan_fails c.args.settings.now c.in_ok-rules.relay_rules c.in-Ok.rewrite_rules c.in_err-plan-in-Ok.field-0.0 c.in_err-plan-in-Ok.ensures.plan)))

pub returns-in_ok-plan-in-Ok-clause-ok : goal.returns-in_ok-plan-in-Ok-clause-ok
returns-in_ok-plan-in-Ok-clause-ok g c =
    others_say g.S.Source.bytes c.args.sources.now c.args.settings.now c.in_ok-rules.relay_rules c.in-Ok.rewrite_rules c.in_ok-plan-in-Ok.plan
    (file_of (λ v. v.items) c.in_ok-rules.rules) (file_of (λ v. v.items) c.in-Ok.rewrite)
    (rw (← c.destinations.ensures.list) c.in_ok-rules.ensures.ok) c.in-Ok.ensures.ok c.in_ok-plan-in-Ok.ensures.plan

pub returns-in_ok-plan-in-Ok-clause-made : goal.returns-in_ok-plan-in-Ok-clause-made
returns-in_ok-plan-in-Ok-clause-made g c =
    plan_is c.args.settings.now _ _ c.in_ok-rules.relay_rules c.in-Ok.rewrite_rules c.in_ok-plan-in-Ok.plan
    (rw (← c.destinations.ensures.list) c.in_ok-rules.ensures.of_bytes) c.in-Ok.ensures.of_bytes c.in_ok-plan-in-Ok.ensures.plan
