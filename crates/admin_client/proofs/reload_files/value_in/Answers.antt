use Rattle.std.proofs.Common.{rules, tests, length, arith}
use Rattle.std.specs.List.{slice_split}
use Rattle.std.proofs.lemmas.List.{length_push}
use Rattle.std.proofs.lemmas.Iterator.Splits.{YieldsList-from_slice_split}
use Rattle.std.proofs.lemmas.Iterator.Consumers.{YieldsList-turn, YieldsList-end}
use Rattle.admin_client.specs.AdminCommand.{is_newline}
use Rattle.admin_client.specs.FilesAnswer.{value_in}
use Rattle.admin_client.proofs.Lines.{value_found, none_here, none_left}
use Rattle.admin_client.proofs.reload_files.value_in.Goals as goal

pub returns-in-Some-behind : goal.returns-in-Some-behind
returns-in-Some-behind c =
    let sent = c.args.sent.now in
    let turn = YieldsList-turn (YieldsList-from_slice_split _ is_newline sent (cc) (cc) (cc) (λ x b q k. search (rules, tests))) c.loop-line.yielded _ c.loop-line.yielded_by _ _ c.in-Some.line c.in-Some.is c.next.ensures.steps in
    value_found c.args.words.now (slice_split is_newline sent) (length c.loop-line.yielded) c.in-Some.line.now c.in-Some-behind.value.now (value_in c.args.words.now sent) turn c.in-Some-behind.ensures c.loop-line.invariant.found

pub loop-line-preserved : goal.loop-line-preserved
loop-line-preserved c =
    let sent = c.args.sent.now in
    let turn = YieldsList-turn (YieldsList-from_slice_split _ is_newline sent (cc) (cc) (cc) (λ x b q k. search (rules, tests))) c.loop-line.yielded _ c.loop-line.yielded_by _ _ c.in-Some.line c.in-Some.is c.next.ensures.steps in
    record {
      goes_on = search rules;
      ends = search rules;
      found = rw length_push (none_here c.args.words.now (slice_split is_newline sent) (length c.loop-line.yielded) c.in-Some.line.now (value_in c.args.words.now sent) turn c.in_default.ensures c.loop-line.invariant.found);
    }

pub returns : goal.returns
returns c =
    let sent = c.args.sent.now in
    let end = YieldsList-end (YieldsList-from_slice_split _ is_newline sent (cc) (cc) (cc) (λ x b q k. search (rules, tests))) c.loop-line.yielded _ c.loop-line.yielded_by _ _ c.in-None.is c.next.ensures.steps in
    none_left c.args.words.now (slice_split is_newline sent) (length c.loop-line.yielded) (value_in c.args.words.now sent) (omega (arith, end.1)) c.loop-line.invariant.found
