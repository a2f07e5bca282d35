-- What `read` may return if it does not return rules.
use Rattle.std.specs.Prelude.{◌≡◌, ℕ, ◌+◌, List, [], ◌∷◌, ◌++◌, length, Option, Some, Err}
use Rattle.rewrite_rules.specs.declared.line.Section.{Section}
use Rattle.rewrite_rules.specs.declared.fault.RewriteReadFault.{RewriteReadFault}
use Rattle.rewrite_rules.specs.declared.fault.RewriteReadFault.TheVariants.{NoSection, NoEquals, BadPattern, BadReplacement, NoMemory}
use Rattle.rewrite_rules.specs.Line.{RuleText, Meaning, Rule}
use Rattle.patterns.specs.declared.case.Case.TheVariants.{Observed}
use Rattle.patterns.specs.Pattern.{IsRefused}
use Rattle.rewrite_rules.specs.File.{last_section, numbered_lines, rule_fault, fault_at, faults, reading_of}

-- the fault of a pattern: that `regex` refuses it, unless memory ran out
abbrev pub IsPatternFault : ℕ → List ℕ → RewriteReadFault → Type 0
IsPatternFault number pattern (BadPattern reported) = (reported ≡ number) × IsRefused Observed pattern
IsPatternFault number pattern NoMemory = Unit {0}
IsPatternFault number pattern (NoSection reported) = ⊥
IsPatternFault number pattern (NoEquals reported) = ⊥
IsPatternFault number pattern (BadReplacement reported) = ⊥

-- the fault of a rule in a section: that `regex` refuses its pattern, or its own fault, unless memory ran out
abbrev pub IsRuleFault : ℕ → RuleText → RewriteReadFault → Type 0
IsRuleFault number text (BadPattern reported) = (reported ≡ number) × IsRefused Observed text.pattern
IsRuleFault number text NoMemory = Unit {0}
IsRuleFault number text (NoSection reported) = rule_fault number (Some text) ≡ Some (NoSection reported)
IsRuleFault number text (NoEquals reported) = rule_fault number (Some text) ≡ Some (NoEquals reported)
IsRuleFault number text (BadReplacement reported) =
    rule_fault number (Some text) ≡ Some (BadReplacement reported)

-- a rule in a section, whose pattern `regex` refuses
pub record RefusesPattern (section : Option Section) (line : Meaning) : Type 0 where
  pub named : Section
  pub text : RuleText
  pub in_section : section ≡ Some named
  pub is_rule : line ≡ Rule (Some text)
  pub refused : IsRefused Observed text.pattern

-- the same for a line
abbrev pub IsLineFault : ℕ → Option Section → Meaning → RewriteReadFault → Type 0
IsLineFault number section line (BadPattern reported) = (reported ≡ number) × RefusesPattern section line
IsLineFault number section line NoMemory = Unit {0}
IsLineFault number section line (NoSection reported) =
    fault_at number section line ≡ Some (NoSection reported)
IsLineFault number section line (NoEquals reported) =
    fault_at number section line ≡ Some (NoEquals reported)
IsLineFault number section line (BadReplacement reported) =
    fault_at number section line ≡ Some (BadReplacement reported)

-- the lines before the one with this number have no fault, and that one is a rule in a section, whose pattern `regex`
-- refuses
pub record RefusesPatternAt (lines : List Meaning) (number : ℕ) : Type 0 where
  pub before : List Meaning
  pub line : Meaning
  pub after : List Meaning
  pub lines_are : lines ≡ before ++ line ∷ after
  pub number_is : number ≡ length before + 1
  pub no_fault : faults (numbered_lines before) ≡ []
  pub refuses : RefusesPattern (last_section before) line

-- the same for a file
abbrev pub IsFileFault : List Meaning → RewriteReadFault → Type 0
IsFileFault lines (BadPattern number) = RefusesPatternAt lines number
IsFileFault lines NoMemory = Unit {0}
IsFileFault lines (NoSection number) = reading_of lines ≡ Err (NoSection number)
IsFileFault lines (NoEquals number) = reading_of lines ≡ Err (NoEquals number)
IsFileFault lines (BadReplacement number) = reading_of lines ≡ Err (BadReplacement number)
