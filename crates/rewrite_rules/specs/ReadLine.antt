-- A line as the code holds it.
use Rattle.std.specs.Prelude.{option_map}
use Rattle.rewrite_rules.specs.declared.line.Line.{Line}
use Rattle.rewrite_rules.specs.declared.line.Line.TheVariants as line
use Rattle.rewrite_rules.specs.declared.line.TextOfRule.{TextOfRule}
use Rattle.rewrite_rules.specs.Line.{RuleText, Meaning, Skipped, Header, Rule}

-- a rule's text apart from where it is in the file
abbrev pub rule_seen : TextOfRule → RuleText
rule_seen r = record { pattern = r.pattern.now; replacement = r.replacement.now }

-- what a line says, apart from where it is in the file
abbrev pub meaning_seen : Line → Meaning
meaning_seen line.Skipped = Skipped
meaning_seen (line.Header section) = Header section
meaning_seen (line.Rule text) = Rule (option_map rule_seen text)
