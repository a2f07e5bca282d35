-- Laws above the definitions.
use Rattle.std.specs.Prelude.{◌≡◌, ℕ, true, false, List, ◌∷◌, ◌++◌}
use Rattle.conf_text.specs.Sections.{SectionText}
use Rattle.conf_text.specs.Destination.{Destination}
use Rattle.relay_base.specs.DestIds.{are_below, NamesEachOnce}
use Rattle.relay_rules.specs.Rules.{RuleList, names_below}
use Rattle.relay_rules.specs.Sections.{is_default, has_default}
use Rattle.relay_rules.specs.Reading.{rule_list_of}
use Rattle.relay_rules.specs.Route.{rule_route}

-- a route names no destination twice
abbrev pub RouteNamesEachOnce : Type 0
RouteNamesEachOnce = (list : RuleList) (name : List ℕ) → NamesEachOnce (rule_route list name)

-- a route names indices below the same number of destinations as the rules do
abbrev pub RouteStaysBelow : Type 0
RouteStaysBelow =
    (count : ℕ) (list : RuleList) (name : List ℕ) → names_below count list ≡ true
    → are_below count (rule_route list name) ≡ true

-- wherever the default rule is, a name goes to the same destinations as if it were first
abbrev pub DefaultRuleAnywhere : Type 0
DefaultRuleAnywhere =
    (dests : List Destination) (before after : List SectionText) (section : SectionText)
    (name : List ℕ)
    → is_default section ≡ true → has_default before ≡ false
    → rule_route (rule_list_of dests (before ++ section ∷ after)) name
    ≡ rule_route (rule_list_of dests (section ∷ (before ++ after))) name
