use Rattle.std.proofs.Common.{◌+◌, ◌∙◌, List, length, eqb, ap, lit<, arith, inr, refl, subst, sym}
use Rattle.std.proofs.lemmas.Bool.{eqb-false}
use Rattle.std.specs.List.{slice_split}
use Rattle.std.proofs.lemmas.Result.{err_from_is_err_and}
use Rattle.std.proofs.lemmas.List.{length_push, length-map}
use Rattle.std.proofs.lemmas.Iterator.Splits.{YieldsList-from_str_split}
use Rattle.std.proofs.lemmas.Iterator.Consumers.{YieldsList-turn, YieldsList-end}
use Rattle.reader_core.specs.declared.kind.ReaderKind.{ReaderKind}
use Rattle.relay_base.proofs.Turns.{turn_of}
use Rattle.replay.specs.ScriptLine.{meaning_of}
use Rattle.replay.specs.ScriptText.{ScriptText, meanings_of, script_of}
use Rattle.replay.proofs.ScriptReading.{IsRead, none_read, one_more, fails, all_read, with_readers, without_readers}
use Rattle.replay.proofs.script.Script.add_lines.Goals as goal

pub loop-line-init : goal.loop-line-init
loop-line-init c = (refl, subst (λ (s : ScriptText). IsRead (meanings_of c.args.text.now) 0 s) (sym c.requires) (none_read (meanings_of c.args.text.now)))

pub loop-line-preserved : goal.loop-line-preserved
loop-line-preserved c =
    let text = c.args.text.now in
    let turn = YieldsList-turn (YieldsList-from_str_split 10 text (lit< tt) (cc) (cc) (cc)) c.loop-line.yielded _ c.loop-line.yielded_by _ _ c.in-Some.line c.in-Some.is c.next.ensures.steps in
    let line = turn_of meaning_of (slice_split (λ b. eqb b 10) text) (length c.loop-line.yielded) c.in-Some.line.now turn in
    let given = rw (c.in_ok-read_line.ensures, c.loop-line.invariant.0) at c.in_ok-add_line.ensures.ok in
    rw length_push (ap (λ k. k + 1) c.loop-line.invariant.0, one_more (meanings_of text) (length c.loop-line.yielded) (meaning_of c.in-Some.line.now) line c.loop-line.self c.loop-line.invariant.1 c.add_line.new.self given)

pub returns-in_err-add_line : goal.returns-in_err-add_line
unfolding script_of
returns-in_err-add_line c =
    let text = c.args.text.now in
    let turn = YieldsList-turn (YieldsList-from_str_split 10 text (lit< tt) (cc) (cc) (cc)) c.loop-line.yielded _ c.loop-line.yielded_by _ _ c.in-Some.line c.in-Some.is c.next.ensures.steps in
    let line = turn_of meaning_of (slice_split (λ b. eqb b 10) text) (length c.loop-line.yielded) c.in-Some.line.now turn in
    let given = rw (c.in_ok-read_line.ensures, c.loop-line.invariant.0) at c.in_err-add_line.ensures.err in
    let p = err_from_is_err_and c.from_residual-in_err-add_line.result c.from_residual-in_err-add_line.ensures.1 in
    rw (p.1, p.2) (record { script = fails (meanings_of text) (length c.loop-line.yielded) (meaning_of c.in-Some.line.now) line c.loop-line.self c.loop-line.invariant.1 c.in_err-add_line.field-0.0 given; readers = tt })

pub returns-then-is_empty : goal.returns-then-is_empty
unfolding script_of
returns-then-is_empty c =
    let text = c.args.text.now in
    let end = YieldsList-end (YieldsList-from_str_split 10 text (lit< tt) (cc) (cc) (cc)) c.loop-line.yielded _ c.loop-line.yielded_by _ _ c.in-None.is c.next.ensures.steps in
    let none = c.is_empty.ensures ∙ ap (λ (ks : List ReaderKind). eqb (length ks) 0) c.kinds.ensures.kinds in
    record {
      script = inr (
          all_read (meanings_of text) (length c.loop-line.yielded) c.loop-line.self (omega (arith, end.1, length-map (slice_split (λ b. eqb b 10) text) meaning_of)) c.loop-line.invariant.1
          ∙ without_readers c.loop-line.self c.is_empty.result none c.if-is_empty.true
          );
      readers = tt;
    }

pub returns : goal.returns
unfolding script_of
returns c =
    let text = c.args.text.now in
    let end = YieldsList-end (YieldsList-from_str_split 10 text (lit< tt) (cc) (cc) (cc)) c.loop-line.yielded _ c.loop-line.yielded_by _ _ c.in-None.is c.next.ensures.steps in
    let none = c.is_empty.ensures ∙ ap (λ (ks : List ReaderKind). eqb (length ks) 0) c.kinds.ensures.kinds in
    let some = sym none ∙ c.if-is_empty.false in
    let not = eqb-false _ _ some in
    record {
      script =
          all_read (meanings_of text) (length c.loop-line.yielded) c.loop-line.self (omega (arith, end.1, length-map (slice_split (λ b. eqb b 10) text) meaning_of)) c.loop-line.invariant.1
          ∙ with_readers c.loop-line.self c.is_empty.result none c.if-is_empty.false;
      readers = omega (arith, not);
    }
