use Rattle.std.proofs.Common.{◌≡◌, take, is_none}
use Rattle.patterns.specs.Replacement.{text_or}
use Rattle.rewrite_rules.specs.Rule.{text_after_all, none_match}
use Rattle.rewrite_rules.proofs.rules.rewrite_text.Given as goal

abbrev pub invariant-loop-rule : goal.invariant-loop-rule
invariant-loop-rule l = record {
  same : l.rule-items ≡ l.fn.rules.items;
  text : text_or l.text l.new ≡ text_after_all (take l.rule-index l.fn.rules.items) l.text;
  none : is_none l.new ≡ none_match (take l.rule-index l.fn.rules.items) l.text;
}
