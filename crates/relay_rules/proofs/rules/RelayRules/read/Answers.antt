use Rattle.std.proofs.Common.{Option, Vec, Global, is_some, option_map, sym, ap, ◌∙◌}
use Rattle.std.proofs.lemmas.Result.{err_from_is_err_and}
use Rattle.relay_base.specs.declared.dest_id.DestId.{DestId}
use Rattle.relay_rules.proofs.Readings.{is_some-option_map, fails, with_rule, with_none, with_default, without_default, all_read}
use Rattle.relay_rules.specs.Answers.{none_refused}
use Rattle.relay_rules.proofs.Places.{relay_rules_below}
use Rattle.relay_rules.proofs.rules.RelayRules.read.Goals as goal
use Rattle.relay_rules.proofs.rules.RelayRules.read.Goals.{in-Rule+in_ok-push-in-Rule, in-Default, in-Skipped}

pub returns-in_err-rule-clause-rules : goal.returns-in_err-rule-clause-rules
returns-in_err-rule-clause-rules c =
    let p = err_from_is_err_and c.from_residual.result c.from_residual.ensures.1 in
    let had = c.is_some.ensures ∙ sym (is_some-option_map (λ (ids : Vec DestId Global). ids.items) c.loop-number.default) in
    let reported = fails c.args.dests.now c.sections-section-items.result.now c.loop-number.number c.loop-number.rules.items
    (option_map (λ ids. ids.items) c.loop-number.default) c.loop-number.invariant c.section-item.result c.loop-number-test.true c.section-item.is
    c.in_err-rule.field-0.0 (rw had at c.in_err-rule.ensures.fault) in
    rw (p.1, p.2) (rw c.sections-section-items.ensures at reported)

pub loop-number-preserved : goal.loop-number-preserved
loop-number-preserved c =
    let had = c.is_some.ensures ∙ sym (is_some-option_map (λ (ids : Vec DestId Global). ids.items) c.loop-number.default) in
    let none = rw had at c.in_ok-rule.ensures.sound in
    elim c.match-branch-2.branch [
      | in-Rule+in_ok-push-in-Rule w ↦
          let part = rw w.in-Rule.is at c.in_ok-rule.ensures.part in
          rw (w.rules-is, w.default-is, w.in_ok-push-in-Rule.ensures.items)
          (with_rule c.args.dests.now c.sections-section-items.result.now c.loop-number.number c.loop-number.rules.items
          (option_map (λ ids. ids.items) c.loop-number.default) c.loop-number.invariant c.section-item.result c.loop-number-test.true c.section-item.is
          w.in-Rule.rule none part.0 part.1)
      | in-Default w ↦
          let part = rw w.in-Default.is at c.in_ok-rule.ensures.part in
          rw (w.rules-is, w.default-is)
          (with_default c.args.dests.now c.sections-section-items.result.now c.loop-number.number c.loop-number.rules.items
          (option_map (λ ids. ids.items) c.loop-number.default) c.loop-number.invariant c.section-item.result c.loop-number-test.true c.section-item.is
          w.in-Default.ids.items none part.0 part.1 part.2 (sym had ∙ part.3))
      | in-Skipped w ↦
          let part = rw w.in-Skipped.is at c.in_ok-rule.ensures.part in
          rw (w.rules-is, w.default-is)
          (with_none c.args.dests.now c.sections-section-items.result.now c.loop-number.number c.loop-number.rules.items
          (option_map (λ ids. ids.items) c.loop-number.default) c.loop-number.invariant c.section-item.result c.loop-number-test.true c.section-item.is
          none part.0 part.1)
    ]

pub returns-in_default-clause-rules : goal.returns-in_default-clause-rules
returns-in_default-clause-rules c =
    let missing = ap (λ (default : Option (Vec DestId Global)). is_some (option_map (λ ids. ids.items) default)) c.in_default.is in
    let read = without_default c.args.dests.now c.sections-section-items.result.now c.loop-number.number c.loop-number.rules.items
    (option_map (λ ids. ids.items) c.loop-number.default) c.loop-number.invariant c.loop-number-test.false missing in
    rw c.sections.ensures (rw c.sections-section-items.ensures at read)

pub returns-clause-rules : goal.returns-clause-rules
returns-clause-rules c =
    let read = all_read c.args.dests.now c.sections-section-items.result.now c.loop-number.number c.loop-number.rules.items
    (option_map (λ ids. ids.items) c.loop-number.default) c.loop-number.invariant c.loop-number-test.false c.in-Some.default.items
    (ap (option_map (λ (ids : Vec DestId Global). ids.items)) c.in-Some.is) in
    rw c.sections-section-items.ensures at read

pub returns-clause-places : goal.returns-clause-places
returns-clause-places c = relay_rules_below none_refused c.args.dests.now c.args.ini.now _ (returns-clause-rules c)
