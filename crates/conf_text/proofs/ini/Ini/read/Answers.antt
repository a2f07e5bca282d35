use Rattle.std.proofs.Common.{◌+◌, length, eqb, ap, lit<, arith}
use Rattle.std.specs.List.{slice_split}
use Rattle.std.proofs.lemmas.Result.{err_from_is_err_and}
use Rattle.std.proofs.lemmas.List.{length_push, length-map}
use Rattle.std.proofs.lemmas.Iterator.Splits.{YieldsList-from_str_split}
use Rattle.std.proofs.lemmas.Iterator.Consumers.{YieldsList-turn, YieldsList-end}
use Rattle.conf_text.specs.Lines.{meaning_of}
use Rattle.conf_text.specs.IniText.{meanings_of, ini_of}
use Rattle.relay_base.proofs.Turns.{turn_of}
use Rattle.conf_text.proofs.IniReading.{one_more, fails, all_read}
use Rattle.conf_text.proofs.ini.Ini.read.Goals as goal

pub loop-line-preserved : goal.loop-line-preserved
loop-line-preserved c =
    let text = c.args.text.now in
    let turn = YieldsList-turn (YieldsList-from_str_split 10 text (lit< tt) (cc) (cc) (cc)) c.loop-line.yielded _ c.loop-line.yielded_by _ _ c.in-Some.line c.in-Some.is c.next.ensures.steps in
    let line = turn_of meaning_of (slice_split (λ b. eqb b 10) text) (length c.loop-line.yielded) c.in-Some.line.now turn in
    let given = rw (c.read_line.ensures, c.loop-line.invariant.0) at c.in_ok-add_line.ensures.ok in
    rw length_push (ap (λ k. k + 1) c.loop-line.invariant.0, one_more (meanings_of text) (length c.loop-line.yielded) (meaning_of c.in-Some.line.now) c.loop-line.ini c.add_line.new.self line c.loop-line.invariant.1 given)

pub returns-in_err-add_line : goal.returns-in_err-add_line
unfolding ini_of
returns-in_err-add_line c =
    let text = c.args.text.now in
    let turn = YieldsList-turn (YieldsList-from_str_split 10 text (lit< tt) (cc) (cc) (cc)) c.loop-line.yielded _ c.loop-line.yielded_by _ _ c.in-Some.line c.in-Some.is c.next.ensures.steps in
    let line = turn_of meaning_of (slice_split (λ b. eqb b 10) text) (length c.loop-line.yielded) c.in-Some.line.now turn in
    let given = rw (c.read_line.ensures, c.loop-line.invariant.0) at c.in_err-add_line.ensures.err in
    let p = err_from_is_err_and c.from_residual.result c.from_residual.ensures.1 in
    rw (p.1, p.2) (fails c.in_err-add_line.field-0.0 (meanings_of text) (length c.loop-line.yielded) (meaning_of c.in-Some.line.now) c.loop-line.ini line c.loop-line.invariant.1 given)

pub returns : goal.returns
unfolding ini_of
returns c =
    let text = c.args.text.now in
    let end = YieldsList-end (YieldsList-from_str_split 10 text (lit< tt) (cc) (cc) (cc)) c.loop-line.yielded _ c.loop-line.yielded_by _ _ c.in-None.is c.next.ensures.steps in
    all_read (meanings_of text) (length c.loop-line.yielded) c.loop-line.ini (omega (arith, end.1, length-map (slice_split (λ b. eqb b 10) text) meaning_of)) c.loop-line.invariant.1
