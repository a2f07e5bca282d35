-- Where the relay rules send a name.
use Rattle.std.specs.Prelude.{ℕ, List, [], ◌∷◌, ◌++◌, filter, if◌then◌else◌}
use Rattle.std.specs.List.{list_all, flat_map}
use Rattle.relay_base.specs.DestIds.{first_mentions}
use Rattle.relay_base.specs.declared.dest_id.DestId.{DestId}
use Rattle.patterns.specs.Pattern.{is_found}
use Rattle.relay_rules.specs.Rules.{RelayRule, RuleList, pattern_of}

-- the rules whose pattern is found in a name, in order
abbrev pub found_in : List ℕ → List RelayRule → List RelayRule
found_in name rules = filter (λ rule. is_found (pattern_of rule) name) rules

-- up to and with the first that does not continue
abbrev pub up_to_stop : List RelayRule → List RelayRule
up_to_stop [] = []
up_to_stop (rule ∷ rules) = rule ∷ (if rule.continues then up_to_stop rules else [])

-- the default rule is tried if none stopped the search
abbrev pub default_after : List RelayRule → List DestId → List DestId
default_after rules default = if list_all (λ rule. rule.continues) rules then default else []

-- the destinations of those rules, and then of the default rule
abbrev pub mentions : RuleList → List ℕ → List DestId
mentions list name =
    flat_map (λ rule. rule.destinations) (up_to_stop (found_in name list.rules))
    ++ default_after (found_in name list.rules) list.default

-- the rule route of a name: those destinations, each at its first mention
unfoldable pub rule_route : RuleList → List ℕ → List DestId
rule_route list name = first_mentions (mentions list name)
