use Rattle.std.proofs.lemmas.Result.{err_from_is_err_and}
use Rattle.relay_files.specs.Files.{Bytes}
use Rattle.relay_files.proofs.FaultLemmas.{rules_ini, rules_read}
use Rattle.relay_files.proofs.configuration.rules_in.Goals as goal

pub returns-in_err-ini-clause-err : goal.returns-in_err-ini-clause-err
returns-in_err-ini-clause-err c =
    let p = err_from_is_err_and c.from_residual.result c.from_residual.ensures.1 in
    rw (p.1, p.2) (rules_ini c.args.dests.now (Bytes c.args.bytes.now) c.in_err-ini.field-0.0 c.in_err-ini.ensures.err)

pub returns-in_err-read-clause-err : goal.returns-in_err-read-clause-err
returns-in_err-read-clause-err c =
    let p = err_from_is_err_and c.from_residual-in_err-read.result c.from_residual-in_err-read.ensures.1 in
    rw (p.1, p.2) (rules_read c.args.dests.now (Bytes c.args.bytes.now) c.in_ok-ini.ini c.in_err-read.field-0.0 c.in_ok-ini.ensures.ok c.in_err-read.ensures.rules)
