-- A section as the code reads it.
use Rattle.std.specs.Prelude.{◌≡◌, ℕ, Bool, true, false, List, Option, Some, None}
use Rattle.conf_text.specs.Sections.{SectionText}
use Rattle.conf_text.specs.Destination.{Destination}
use Rattle.relay_rules.specs.declared.fault.RuleFault.{RuleFault}
use Rattle.relay_rules.specs.declared.fault.RuleFault.TheVariants.{NoDestinations, PatternAndDefault, SecondDefault, NoDefault, BadPattern, BadTruth, BadDestination, NoMemory}
use Rattle.relay_rules.specs.declared.section.Part.{Part}
use Rattle.relay_rules.specs.declared.section.Part.TheVariants.{Rule, Default, Skipped}
use Rattle.relay_rules.specs.Destinations.{ids_of}
use Rattle.relay_base.specs.declared.dest_id.DestId.{DestId}
use Rattle.relay_rules.specs.Sections.{rule_of, is_default, is_on, section_destinations}

-- what a section is read as; `had_default` says whether the default rule is before it
abbrev pub IsPartOf : List Destination → Bool → SectionText → Part → Type 0
IsPartOf dests had_default section (Rule rule) =
    (rule_of dests section ≡ Some rule) × (is_default section ≡ false)
IsPartOf dests had_default section (Default ids) =
    (rule_of dests section ≡ None) × (is_default section ≡ true)
    × (ids.items ≡ ids_of dests (section_destinations section)) × (had_default ≡ false)
IsPartOf dests had_default section Skipped =
    (rule_of dests section ≡ None) × (is_default section ≡ false)

-- The fault is that of the section with this number, unless memory ran out. It is that of a pattern if `regex`
-- refused it, and then `Refuses` holds.
abbrev pub FailsAt : ℕ → Type 0 → (Bool → Option RuleFault) → RuleFault → Type 0
FailsAt number Refuses fault_of (NoDestinations section) =
    fault_of false ≡ Some (NoDestinations section)
FailsAt number Refuses fault_of (PatternAndDefault section) =
    fault_of false ≡ Some (PatternAndDefault section)
FailsAt number Refuses fault_of (SecondDefault section) =
    fault_of false ≡ Some (SecondDefault section)
FailsAt number Refuses fault_of (NoDefault section) = fault_of false ≡ Some (NoDefault section)
FailsAt number Refuses fault_of (BadPattern section) =
    (section ≡ number) × (fault_of true ≡ Some (BadPattern section)) × Refuses
FailsAt number Refuses fault_of (BadTruth section) = fault_of false ≡ Some (BadTruth section)
FailsAt number Refuses fault_of (BadDestination section) =
    fault_of false ≡ Some (BadDestination section)
FailsAt number Refuses fault_of NoMemory = Unit {0}

-- a rule with this pattern, these destinations and this flag
abbrev pub IsRulePart : List ℕ → List DestId → Bool → Part → Type 0
IsRulePart pattern destinations continues (Rule rule) =
    rule ≡ record { pattern = pattern; destinations = destinations; continues = continues }
IsRulePart pattern destinations continues (Default ids) = ⊥
IsRulePart pattern destinations continues Skipped = ⊥

-- the default rule with these destinations if the text says yes
abbrev pub IsDefaultPart : List DestId → Bool → List ℕ → Part → Type 0
IsDefaultPart destinations had_default text (Rule rule) = ⊥
IsDefaultPart destinations had_default text (Default ids) =
    (is_on (Some text) ≡ true) × (ids.items ≡ destinations) × (had_default ≡ false)
IsDefaultPart destinations had_default text Skipped = is_on (Some text) ≡ false
