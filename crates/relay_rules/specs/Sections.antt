-- What a section of the file of rules says.
use Rattle.std.specs.Prelude.{ℕ, Bool, false, ◌&&◌, List, [], Option, is_none, option_map, option_and_then, unwrap_or, find, codes}
use Rattle.std.specs.List.{list_any, filter_map}
use Rattle.conf_text.specs.Sections.{SectionText, value_of}
use Rattle.conf_text.specs.TruthWord.{truth_of}
use Rattle.conf_text.specs.Destination.{Destination, destinations_of}
use Rattle.relay_base.specs.declared.dest_id.DestId.{DestId}
use Rattle.relay_rules.specs.Rules.{RelayRule}
use Rattle.relay_rules.specs.Destinations.{ids_of}

-- the values of the four keys
abbrev pub destinations_text : SectionText → Option (List ℕ)
destinations_text section = value_of (codes "destinations") section.pairs

abbrev pub pattern_text : SectionText → Option (List ℕ)
pattern_text section = value_of (codes "pattern") section.pairs

abbrev pub default_text : SectionText → Option (List ℕ)
default_text section = value_of (codes "default") section.pairs

abbrev pub continue_text : SectionText → Option (List ℕ)
continue_text section = value_of (codes "continue") section.pairs

-- the destinations that a list names
abbrev pub destinations_in : Option (List ℕ) → List Destination
destinations_in text = unwrap_or (option_and_then destinations_of text) []

-- the destinations that a section names
abbrev pub section_destinations : SectionText → List Destination
section_destinations section = destinations_in (destinations_text section)

-- a truth word that says yes; false if the section has no such key
abbrev pub is_on : Option (List ℕ) → Bool
is_on text = unwrap_or (option_and_then truth_of text) false

-- a section with a pattern is a rule
abbrev pub rule_of : List Destination → SectionText → Option RelayRule
rule_of dests section =
    option_map
    (λ pattern. record {
      pattern = pattern;
      destinations = ids_of dests (section_destinations section);
      continues = is_on (continue_text section);
    })
    (pattern_text section)

-- a section without one may be the default rule
abbrev pub is_default : SectionText → Bool
is_default section = is_none (pattern_text section) && is_on (default_text section)

-- the rules among sections, in order
abbrev pub rules_of : List Destination → List SectionText → List RelayRule
rules_of dests sections = filter_map (rule_of dests) sections

-- whether the default rule is among sections
abbrev pub has_default : List SectionText → Bool
has_default sections = list_any is_default sections

-- where the default rule among sections sends
abbrev pub default_of : List Destination → List SectionText → Option (List DestId)
default_of dests sections = option_map
    (λ section. ids_of dests (section_destinations section)) (find is_default sections)
