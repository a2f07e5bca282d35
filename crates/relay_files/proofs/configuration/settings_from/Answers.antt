use Rattle.std.proofs.Common.{ap}
use Rattle.std.proofs.lemmas.Result.{err_from_is_err_and}
use Rattle.relay_files.specs.Files.{Bytes}
use Rattle.relay_files.proofs.FileLemmas.{config_unread}
use Rattle.relay_files.proofs.configuration.settings_from.Goals as goal

pub returns-in_err-bytes-clause-err : goal.returns-in_err-bytes-clause-err
returns-in_err-bytes-clause-err g c =
    let p = err_from_is_err_and c.from_residual.result c.from_residual.ensures.1 in
    rw (p.1, p.2) (config_unread _ c.in_err-bytes.field-0.0 c.in_err-bytes.ensures.err)

pub returns-in_err-settings-clause-err : goal.returns-in_err-settings-clause-err
returns-in_err-settings-clause-err g c =
    let p = err_from_is_err_and c.from_residual-in_err-settings.result c.from_residual-in_err-settings.ensures.1 in
    rw (p.1, p.2) (Bytes c.deref.result.now, rw c.deref.ensures.value c.in_ok-bytes.ensures.ok, c.in_err-settings.ensures.err)

pub returns-clause-ok : goal.returns-clause-ok
returns-clause-ok g c = (
  Bytes c.deref.result.now,
  rw c.deref.ensures.value c.in_ok-bytes.ensures.ok,
  (c.in_ok-settings.ensures.ok, ap Bytes c.deref.ensures.value),
)
