-- A rewrite rule, and what it makes of a text.
use Rattle.std.specs.Prelude.{ℕ, Bool, not, List, fold, Option, option_map, option_and_then}
use Rattle.std.specs.List.{list_all}
use Rattle.patterns.specs.declared.case.Case.TheVariants.{Observed}
use Rattle.patterns.specs.declared.part.Part.{Part}
use Rattle.patterns.specs.Pattern.{PatternText, pattern_in, is_found}
use Rattle.patterns.specs.Replacement.{replaced_text}
use Rattle.rewrite_rules.specs.Line.{RuleText}
use Rattle.rewrite_rules.specs.Replacement.{replacement_of}

-- the text of its pattern, and its replacement
pub record RewriteRule : Type 0 where
  pub pattern : List ℕ
  pub replacement : List Part

-- the rule that a text is, if its pattern is one and its replacement is well formed
abbrev pub rule_of : RuleText → Option RewriteRule
rule_of text = option_and_then
    (λ pattern. option_map
    (λ parts. record { pattern = text.pattern; replacement = parts })
    (replacement_of pattern.groups text.replacement))
    (pattern_in Observed text.pattern)

-- its pattern, case-sensitive
abbrev pub pattern_of : RewriteRule → PatternText
pattern_of rule = record { text = rule.pattern; case = Observed }

-- a text after a rule: the replacement replaces each match
abbrev pub text_after : RewriteRule → List ℕ → List ℕ
text_after rule text = replaced_text (pattern_of rule) rule.replacement text

-- a text after all rules in turn
abbrev pub text_after_all : List RewriteRule → List ℕ → List ℕ
text_after_all rules text = fold (λ before rule. text_after rule before) text rules

-- the rule matches nowhere in the text
abbrev pub matches_nothing : List ℕ → RewriteRule → Bool
matches_nothing text rule = not (is_found (pattern_of rule) text)

-- no rule matches the text
abbrev pub none_match : List RewriteRule → List ℕ → Bool
none_match rules text = list_all (matches_nothing text) rules
