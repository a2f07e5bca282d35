-- Reading a rewrite file: its rules, or its first fault with the line.
use Rattle.std.specs.Prelude.{ℕ, ◌+◌, ◌==◌, Bool, true, false, List, [], ◌∷◌, ◌++◌, map, flat_map, length, Option, Some, None, option_to_list, Result, Ok, Err, if◌then◌else◌}
use Rattle.std.specs.List.{slice_split, filter_map}
use Rattle.std.specs.Option.{option_or}
use Rattle.relay_base.specs.Ascii.{newline}
use Rattle.patterns.specs.declared.case.Case.TheVariants.{Observed}
use Rattle.patterns.specs.declared.part.Part.{Part}
use Rattle.patterns.specs.Pattern.{Pattern, pattern_in}
use Rattle.rewrite_rules.specs.declared.line.Section.{Section}
use Rattle.rewrite_rules.specs.declared.line.Section.TheVariants.{Pre, Post}
use Rattle.rewrite_rules.specs.declared.fault.RewriteReadFault.{RewriteReadFault}
use Rattle.rewrite_rules.specs.declared.fault.RewriteReadFault.TheVariants.{NoSection, NoEquals, BadPattern, BadReplacement}
use Rattle.rewrite_rules.specs.Line.{RuleText, Meaning, Skipped, Header, Rule, meaning_of}
use Rattle.rewrite_rules.specs.Replacement.{replacement_of}
use Rattle.rewrite_rules.specs.Rule.{RewriteRule, rule_of}

-- what the lines of a text say
abbrev pub meanings_of : List ℕ → List Meaning
meanings_of text = map meaning_of (slice_split (λ b. b == newline) text)

-- the section that a line begins
abbrev pub section_begun : Meaning → Option Section
section_begun Skipped = None
section_begun (Header section) = section
section_begun (Rule text) = None

-- the section that the last header begins
abbrev pub last_section : List Meaning → Option Section
last_section [] = None
last_section (line ∷ lines) = option_or (last_section lines) (section_begun line)

-- a line with its number, from 1, and the section that it is in
pub record NumberedLine : Type 0 where
  pub number : ℕ
  pub section : Option Section
  pub meaning : Meaning

-- a line after others
abbrev pub line_after : List Meaning → Meaning → NumberedLine
line_after before line =
    record { number = length before + 1; section = last_section before; meaning = line }

-- lines after others
abbrev pub lines_after : List Meaning → List Meaning → List NumberedLine
lines_after before [] = []
lines_after before (line ∷ lines) = line_after before line ∷ lines_after (before ++ line ∷ []) lines

-- the lines of a file
abbrev pub numbered_lines : List Meaning → List NumberedLine
numbered_lines lines = lines_after [] lines

-- what is wrong with a replacement
abbrev pub replacement_fault : ℕ → Option (List Part) → Option RewriteReadFault
replacement_fault number None = Some (BadReplacement number)
replacement_fault number (Some parts) = None

-- what is wrong with a pattern, or with the replacement after it
abbrev pub pattern_fault : ℕ → List ℕ → Option Pattern → Option RewriteReadFault
pattern_fault number replacement None = Some (BadPattern number)
pattern_fault number replacement (Some pattern) =
    replacement_fault number (replacement_of pattern.groups replacement)

-- what is wrong with a rule in a section
abbrev pub rule_fault : ℕ → Option RuleText → Option RewriteReadFault
rule_fault number None = Some (NoEquals number)
rule_fault number (Some text) =
    pattern_fault number text.replacement (pattern_in Observed text.pattern)

-- what is wrong with a line
abbrev pub fault_at : ℕ → Option Section → Meaning → Option RewriteReadFault
fault_at number section Skipped = None
fault_at number section (Header None) = Some (NoSection number)
fault_at number section (Header (Some named)) = None
fault_at number None (Rule text) = Some (NoSection number)
fault_at number (Some section) (Rule text) = rule_fault number text

abbrev pub fault_of : NumberedLine → Option RewriteReadFault
fault_of line = fault_at line.number line.section line.meaning

-- what is wrong with lines, in order
abbrev pub faults : List NumberedLine → List RewriteReadFault
faults lines = filter_map fault_of lines

-- the section is this one
abbrev pub is_section : Section → Option Section → Bool
is_section Pre (Some Pre) = true
is_section Post (Some Post) = true
is_section wanted section = false

-- the rules of a line that is in the wanted section: one, or none
abbrev pub rules_at : Section → Option Section → Meaning → List RewriteRule
rules_at wanted section Skipped = []
rules_at wanted section (Header named) = []
rules_at wanted section (Rule None) = []
rules_at wanted section (Rule (Some text)) =
    if is_section wanted section then option_to_list (rule_of text) else []

-- the rules of a section, in the order of the file
abbrev pub rules_in : Section → List NumberedLine → List RewriteRule
rules_in section lines = flat_map (λ line. rules_at section line.section line.meaning) lines

-- the rules of a file: those of `pre` and then those of `post`
abbrev pub rules_of : List NumberedLine → List RewriteRule
rules_of lines = rules_in Pre lines ++ rules_in Post lines

-- the rules, unless there is a fault
abbrev pub rules_unless :
    List RewriteReadFault → List RewriteRule → Result (List RewriteRule) RewriteReadFault
rules_unless [] rules = Ok rules
rules_unless (fault ∷ more) rules = Err fault

-- what lines say
abbrev pub reading_of : List Meaning → Result (List RewriteRule) RewriteReadFault
reading_of lines = rules_unless (faults (numbered_lines lines)) (rules_of (numbered_lines lines))

-- what a rewrite file says: its rules, or its first fault
unfoldable pub rewrite_rules_of : List ℕ → Result (List RewriteRule) RewriteReadFault
rewrite_rules_of text = reading_of (meanings_of text)
