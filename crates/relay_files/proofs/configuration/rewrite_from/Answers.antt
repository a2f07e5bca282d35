use Rattle.std.proofs.lemmas.Result.{err_from_is_err_and}
use Rattle.std.proofs.Common.{ℕ, List, Some, ap}
use Rattle.relay_files.specs.Files.{Bytes}
use Rattle.relay_files.proofs.FileLemmas.{is_read_given, rewrite_cannot_read, rewrite_at_fault}
use Rattle.relay_files.proofs.configuration.rewrite_from.Goals as goal

pub returns-in_err-bytes-clause-err : goal.returns-in_err-bytes-clause-err
returns-in_err-bytes-clause-err g c =
    let p = err_from_is_err_and c.from_residual.result c.from_residual.ensures.1 in
    rw (p.1, p.2) (rewrite_cannot_read g.S.Source.bytes c.args.source.now _ c.in-Some.is c.in_err-bytes.field-0.0 c.in_err-bytes.ensures.err)

pub returns-in_err-rules-clause-err : goal.returns-in_err-rules-clause-err
returns-in_err-rules-clause-err g c =
    let p = err_from_is_err_and c.from_residual-in_err-rules.result c.from_residual-in_err-rules.ensures.1 in
    rw (p.1, p.2) (rewrite_at_fault g.S.Source.bytes c.args.source.now _ c.in-Some.is c.in_err-rules.field-0.0 (Bytes c.deref.result.now)
    (rw c.deref.ensures.value c.in_ok-bytes.ensures.ok) c.in_err-rules.ensures.err)

pub returns-clause-ok : goal.returns-clause-ok
returns-clause-ok g c = (
  Some (Bytes c.deref.result.now),
  is_read_given g.S.Source.bytes c.args.source.now _ (Bytes c.deref.result.now) c.in-Some.is (rw c.deref.ensures.value c.in_ok-bytes.ensures.ok),
  (c.in_ok-rules.ensures.ok, ap (λ (b : List ℕ). Some (Bytes b)) c.deref.ensures.value),
)

pub returns-clause-of_bytes : goal.returns-clause-of_bytes
returns-clause-of_bytes g c = rw (← c.deref.ensures.value) c.in_ok-rules.ensures.ok
