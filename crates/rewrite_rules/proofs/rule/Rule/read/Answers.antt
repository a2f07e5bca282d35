use Rattle.std.proofs.Common.{option_map, sym, ap, ◌∙◌}
use Rattle.rewrite_rules.proofs.RuleLemmas.{rule_of-parts, rule_fault-parts}
use Rattle.rewrite_rules.specs.ReadLine.{rule_seen}
use Rattle.rewrite_rules.proofs.rule.Rule.read.Goals as goal

pub returns-in_default-clause-err : goal.returns-in_default-clause-err
returns-in_default-clause-err c =
    rule_fault-parts (rule_seen c.args.text) _ c.args.line (rw c.in_ok-pattern.ensures.ok at c.group_count-groups.ensures)
    (sym c.in_ok-replacement.ensures ∙ ap (option_map (λ v. v.items)) c.in_default.is)

pub returns-clause-ok : goal.returns-clause-ok
returns-clause-ok c =
    rw c.in_ok-pattern.ensures.ok
    (rule_of-parts (rule_seen c.args.text) _ _ (rw c.in_ok-pattern.ensures.ok at c.group_count-groups.ensures)
    (sym c.in_ok-replacement.ensures ∙ ap (option_map (λ v. v.items)) c.in-Some.is))
