use Rattle.std.proofs.lemmas.Result.{err_from_is_err_and}
use Rattle.std.proofs.Common.{refl}
use Rattle.relay_files.specs.Configuration.{file_of}
use Rattle.relay_files.proofs.FileLemmas.{config_at_fault, all_say, all_end}
use Rattle.relay_files.proofs.configuration.Configuration.read.Goals as goal

pub returns-in_err-settings-clause-err : goal.returns-in_err-settings-clause-err
returns-in_err-settings-clause-err g c =
    let p = err_from_is_err_and c.from_residual.result c.from_residual.ensures.1 in
    rw (p.1, p.2) (config_at_fault g.S.Source.bytes c.args.sources.now _ _ c.in_err-settings.ensures.err refl refl)

pub returns-in-Err-clause-err : goal.returns-in-Err-clause-err
returns-in-Err-clause-err g c =
    let sources = c.args.sources.now in
    all_end g.S.Source.bytes sources.config _ sources.rules sources.rewrite _ c.in_ok-settings.settings _ _ c.in_ok-settings.ensures.ok c.in-Err.ensures.err

pub returns-in-Ok-clause-ok : goal.returns-in-Ok-clause-ok
returns-in-Ok-clause-ok g c =
    all_say g.S.Source.bytes c.args.sources.now c.in_ok-settings.settings c.in-Ok.plan c.in_ok-settings.config.items (file_of (λ v. v.items) c.in-Ok.rules)
    (file_of (λ v. v.items) c.in-Ok.rewrite) c.in_ok-settings.ensures.ok c.in-Ok.ensures.ok
