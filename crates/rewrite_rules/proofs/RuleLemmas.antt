-- One rule: how it is read.
use Rattle.std.proofs.Common.{◌≡◌, ℕ, List, Option, None, Some, option_map, refl}
use Rattle.patterns.specs.declared.case.Case.TheVariants.{Observed}
use Rattle.patterns.specs.declared.part.Part.{Part}
use Rattle.patterns.specs.Pattern.{Pattern, pattern_in}
use Rattle.rewrite_rules.specs.declared.fault.RewriteReadFault.TheVariants.{BadReplacement}
use Rattle.rewrite_rules.specs.File.{rule_fault}
use Rattle.rewrite_rules.specs.Line.{RuleText}
use Rattle.rewrite_rules.specs.Replacement.{replacement_of}
use Rattle.rewrite_rules.specs.Rule.{rule_of}

module _ (text : RuleText) where
  -- with the parts of its replacement it is a rule
  rule_by : (pattern : Option Pattern) (groups : ℕ) (parts : List Part) → pattern_in Observed text.pattern ≡ pattern →
      option_map (λ p. p.groups) pattern ≡ Some groups → replacement_of groups text.replacement ≡ Some parts →
      rule_of text ≡ Some (record { pattern = text.pattern; replacement = parts })
  rule_by None groups parts is counts e = absurd cc
  rule_by (Some pattern) groups parts is counts e = let same : pattern.groups ≡ groups = cc in rw (is, same, e) refl

  pub rule_of-parts : (groups : ℕ) (parts : List Part) → option_map (λ p. p.groups) (pattern_in Observed text.pattern) ≡ Some groups →
      replacement_of groups text.replacement ≡ Some parts → rule_of text ≡ Some (record { pattern = text.pattern; replacement = parts })
  rule_of-parts groups parts counts e = rule_by _ groups parts refl counts e

  -- if they are refused, that is its fault
  fault_by : (pattern : Option Pattern) (groups line : ℕ) → pattern_in Observed text.pattern ≡ pattern →
      option_map (λ p. p.groups) pattern ≡ Some groups → replacement_of groups text.replacement ≡ None →
      rule_fault line (Some text) ≡ Some (BadReplacement line)
  fault_by None groups line is counts e = absurd cc
  fault_by (Some pattern) groups line is counts e = let same : pattern.groups ≡ groups = cc in rw (is, same, e) refl

  pub rule_fault-parts : (groups line : ℕ) → option_map (λ p. p.groups) (pattern_in Observed text.pattern) ≡ Some groups →
      replacement_of groups text.replacement ≡ None → rule_fault line (Some text) ≡ Some (BadReplacement line)
  rule_fault-parts groups line counts e = fault_by _ groups line refl counts e
