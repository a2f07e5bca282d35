-- Reading a file of rules.
use Rattle.std.specs.Prelude.{ℕ, Bool, List, [], Option, Some, None, Result, Ok, Err, unwrap_or}
use Rattle.conf_text.specs.Sections.{SectionText}
use Rattle.conf_text.specs.Destination.{Destination}
use Rattle.relay_rules.specs.declared.fault.RuleFault.{RuleFault}
use Rattle.relay_rules.specs.Rules.{RuleList}
use Rattle.relay_rules.specs.Sections.{rules_of, default_of}
use Rattle.relay_rules.specs.Faults.{file_fault}

-- what the sections say
abbrev pub rule_list_of : List Destination → List SectionText → RuleList
rule_list_of dests sections =
    record { rules = rules_of dests sections; default = unwrap_or (default_of dests sections) [] }

-- that, unless there is a fault
abbrev pub unless : {A : Type 0} → Option RuleFault → A → Result A RuleFault
unless None x = Ok x
unless (Some fault) x = Err fault

-- the rules of a file, or its first fault, if `regex` refused the patterns of these sections too
unfoldable pub relay_rules :
    (ℕ → Bool) → List Destination → List SectionText → Result RuleList RuleFault
relay_rules refused dests sections =
    unless (file_fault refused [] sections) (rule_list_of dests sections)
