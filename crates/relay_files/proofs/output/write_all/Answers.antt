use Rattle.std.proofs.Common.{◌++◌, take, drop, ap, sym, ◌∙◌, append_assoc, List, [], ℕ}
use Rattle.std.proofs.lemmas.List.{append-nil, take-append-drop}
use Rattle.relay_base.proofs.Growth.{Appends-then}
use Rattle.relay_files.proofs.BytesLemmas.{GrowsByPart-front, written_all}
use Rattle.relay_files.proofs.output.write_all.Goals as goal

pub returns-then-is_empty-clause-ok : goal.returns-then-is_empty-clause-ok
returns-then-is_empty-clause-ok g c =
    let w = c.loop-write.invariant.written in
    written_all _ _ w.0 c.loop-write.left.now c.args.bytes.now w.1 (sym c.is_empty.ensures ∙ c.if-is_empty.true) w.2

pub returns-then-is_empty-clause-part : goal.returns-then-is_empty-clause-part
returns-then-is_empty-clause-part g c =
    let w = c.loop-write.invariant.written in
    GrowsByPart-front _ _ w.0 c.loop-write.left.now c.args.bytes.now w.1 w.2

pub returns-in_err-count-clause-part : goal.returns-in_err-count-clause-part
returns-in_err-count-clause-part g c =
    let w = c.loop-write.invariant.written in
    let grown = Appends-then _ _ _ w.0 [] w.2 c.in_err-count.ensures.err in
    GrowsByPart-front _ _ (w.0 ++ []) c.loop-write.left.now c.args.bytes.now (w.1 ∙ ap (λ (front : List ℕ). front ++ c.loop-write.left.now) (sym (append-nil w.0))) grown

pub loop-write-preserved : goal.loop-write-preserved
loop-write-preserved g c =
    let w = c.loop-write.invariant.written in
    let left = c.loop-write.left.now in
    let count = c.in_ok-count.count in
    let whole = w.1 ∙ ap (λ (rest : List ℕ). w.0 ++ rest) (sym (take-append-drop count left)) ∙ sym (append_assoc w.0 (take count left) (drop count left)) in
    record {
      written = (
        w.0 ++ take count left,
        whole ∙ ap (λ (rest : List ℕ). (w.0 ++ take count left) ++ rest) (sym c.split_at.ensures.back),
        Appends-then _ _ _ w.0 (take count left) w.2 c.in_ok-count.ensures.taken,
      );
    }

pub returns-clause-part : goal.returns-clause-part
returns-clause-part g c =
    let w = c.loop-write.invariant.written in
    GrowsByPart-front _ _ w.0 c.loop-write.left.now c.args.bytes.now w.1 w.2
