use Rattle.std.proofs.Common.{◌+◌, ◌∙◌, List, Ok, length, eqb, ap, sym, lit<, arith}
use Rattle.std.specs.List.{slice_split}
use Rattle.std.proofs.lemmas.Result.{err_from_is_err_and}
use Rattle.std.proofs.lemmas.List.{length_push, length-map}
use Rattle.std.proofs.lemmas.Iterator.Splits.{YieldsList-from_str_split}
use Rattle.std.proofs.lemmas.Iterator.Consumers.{YieldsList-turn, YieldsList-end}
use Rattle.rewrite_rules.specs.File.{meanings_of, rewrite_rules_of}
use Rattle.rewrite_rules.specs.Line.{meaning_of}
use Rattle.rewrite_rules.specs.Rule.{RewriteRule}
use Rattle.relay_base.proofs.Turns.{turn_of}
use Rattle.rewrite_rules.proofs.FileLemmas.{one_more, fails, all_read}
use Rattle.rewrite_rules.proofs.rules.RewriteRules.read.Goals as goal

pub loop-line-preserved : goal.loop-line-preserved
loop-line-preserved c =
    let text = c.args.text.now in
    let turn = YieldsList-turn (YieldsList-from_str_split 10 text (lit< tt) (cc) (cc) (cc)) c.loop-line.yielded _ c.loop-line.yielded_by _ _ c.in-Some.line c.in-Some.is c.next.ensures.steps in
    let line = turn_of meaning_of (slice_split (λ b. eqb b 10) text) (length c.loop-line.yielded) c.in-Some.line.now turn in
    let fine = rw (c.read_line.ensures, c.loop-line.invariant.0) at c.in_ok-add_line.ensures.fine in
    let section = rw c.read_line.ensures at c.in_ok-add_line.ensures.section in
    let pre = rw c.read_line.ensures at c.in_ok-add_line.ensures.pre in
    let post = rw c.read_line.ensures at c.in_ok-add_line.ensures.post in
    rw length_push (
      ap (λ k. k + 1) c.loop-line.invariant.0,
      one_more (meanings_of text) (length c.loop-line.yielded) (meaning_of c.in-Some.line.now) line _ _ _ c.loop-line.invariant.1 _ _ _ fine section pre post,
    )

pub returns-in_err-add_line-clause-err : goal.returns-in_err-add_line-clause-err
returns-in_err-add_line-clause-err c =
    let text = c.args.text.now in
    let turn = YieldsList-turn (YieldsList-from_str_split 10 text (lit< tt) (cc) (cc) (cc)) c.loop-line.yielded _ c.loop-line.yielded_by _ _ c.in-Some.line c.in-Some.is c.next.ensures.steps in
    let line = turn_of meaning_of (slice_split (λ b. eqb b 10) text) (length c.loop-line.yielded) c.in-Some.line.now turn in
    let fault = rw (c.read_line.ensures, c.loop-line.invariant.0) at c.in_err-add_line.ensures.err in
    let p = err_from_is_err_and c.from_residual.result c.from_residual.ensures.1 in
    rw (p.1, p.2) (fails (meanings_of text) (length c.loop-line.yielded) (meaning_of c.in-Some.line.now) line _ _ _ c.loop-line.invariant.1 c.in_err-add_line.field-0.0 fault)

pub returns-clause-ok : goal.returns-clause-ok
unfolding rewrite_rules_of
returns-clause-ok c =
    let text = c.args.text.now in
    let end = YieldsList-end (YieldsList-from_str_split 10 text (lit< tt) (cc) (cc) (cc)) c.loop-line.yielded _ c.loop-line.yielded_by _ _ c.in-None.is c.next.ensures.steps in
    all_read (meanings_of text) (length c.loop-line.yielded) _ _ _ (omega (arith, end.1, length-map (slice_split (λ b. eqb b 10) text) meaning_of)) c.loop-line.invariant.1
    ∙ ap (λ (rules : List RewriteRule). Ok rules) (sym c.in_ok-append.ensures.items)
