use Rattle.std.proofs.lemmas.Result.{err_from_is_err_and}
use Rattle.relay_files.specs.Files.{Bytes}
use Rattle.relay_files.proofs.FaultLemmas.{rewrite_read}
use Rattle.relay_files.proofs.configuration.rewrite_in.Goals as goal

pub returns-in_err-read-clause-err : goal.returns-in_err-read-clause-err
returns-in_err-read-clause-err c =
    let p = err_from_is_err_and c.from_residual-in_err-read.result c.from_residual-in_err-read.ensures.1 in
    rw (p.1, p.2) (rewrite_read (Bytes c.args.bytes.now) c.in_ok-text.text.now c.in_ok-text.ensures.ok c.in_err-read.field-0.0 c.in_err-read.ensures.err)
