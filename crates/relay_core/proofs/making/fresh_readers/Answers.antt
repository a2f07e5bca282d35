use Rattle.std.proofs.Common.{◌≡◌, ◌++◌, ◌∷◌, [], ◌+◌, List, ℕ, suc, take, ap, sym, subst, ◌∙◌, arith}
use Rattle.std.specs.Prelude.{slice_index_or}
use Rattle.reader_core.specs.Reader.{ReaderModel}
use Rattle.reader_core.specs.declared.kind.ReaderKind.{ReaderKind}
use Rattle.std.proofs.Math.Seq.{take-suc}
use Rattle.std.specs.List.{AllZip}
use Rattle.reader_core.specs.declared.kind.ReaderKind.TheVariants.{Line}
use Rattle.relay_core.specs.WorldModel.{IsFresh}
use Rattle.relay_core.proofs.Zips.{AllZip-push}
use Rattle.std.proofs.lemmas.Result.{IfOk-from_err}
use Rattle.relay_core.proofs.making.fresh_readers.Goals as goal

pub returns-in_err-readers : goal.returns-in_err-readers
returns-in_err-readers c = IfOk-from_err _ _ c.from_residual.ensures.0

pub returns-in_err-push : goal.returns-in_err-push
returns-in_err-push c = IfOk-from_err _ _ c.from_residual-in_err-push.ensures.0

pub loop-kind-preserved : goal.loop-kind-preserved
loop-kind-preserved c =
    let kinds = c.args.kinds.now in
    let place = c.loop-kind.kind-index in
    let next : place + 1 ≡ suc place = omega arith in
    let more : take (place + 1) kinds ≡ take place kinds ++ slice_index_or kinds place Line ∷ [] =
    ap (λ (n : ℕ). take n kinds) next ∙ take-suc kinds place Line c.loop-kind-test.true in
    subst (λ (l : List ReaderModel). AllZip IsFresh l (take (place + 1) kinds)) (sym c.in_ok-push.ensures.items)
    (subst (λ (l : List ReaderKind). AllZip IsFresh (c.loop-kind.readers.items ++ c.new.result ∷ []) l) (sym more)
    (AllZip-push IsFresh c.loop-kind.readers.items (take place kinds) c.new.result (slice_index_or kinds place Line) c.loop-kind.invariant c.new.ensures.represents))
