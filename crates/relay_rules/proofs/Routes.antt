-- From the rules that a name meets to its route.
use Rattle.std.proofs.Common.{◌≡◌, ℕ, Bool, true, false, cond, List, [], ◌++◌, ap, ◌∙◌}
use Rattle.std.specs.List.{list_all, flat_map}
use Rattle.relay_base.specs.declared.dest_id.DestId.{DestId}
use Rattle.relay_rules.specs.Rules.{RelayRule, RuleList}
use Rattle.relay_rules.specs.Destinations.{with_more}
use Rattle.relay_rules.specs.Route.{found_in, up_to_stop, rule_route}
use Rattle.relay_rules.proofs.Mentions.{with_more-append}
use Rattle.relay_rules.proofs.FirstMentions.{with_more-nil}

-- if the search goes on, what the default rule adds
abbrev of_rules : List RelayRule → List DestId
of_rules rules = flat_map (λ (rule : RelayRule). rule.destinations) (up_to_stop rules)

add_default : (met by_default : List DestId) (goes_on : Bool) →
    cond goes_on (with_more (with_more [] met) by_default) (with_more [] met) ≡ with_more [] (met ++ cond goes_on by_default [])
add_default met by_default true = with_more-append [] met by_default
add_default met by_default false = with_more-append [] met []

pub rule_route-is : (list : RuleList) (name : List ℕ) (goes_on : Bool) (met : List DestId) →
    goes_on ≡ list_all (λ rule. rule.continues) (found_in name list.rules) → met ≡ with_more [] (of_rules (found_in name list.rules)) →
    cond goes_on (with_more met list.default) met ≡ rule_route list name
unfolding rule_route
rule_route-is list name goes_on met on is =
    ap (λ (ids : List DestId). cond goes_on (with_more ids list.default) ids) is
    ∙ add_default (of_rules (found_in name list.rules)) list.default goes_on
    ∙ ap (λ (b : Bool). with_more [] (of_rules (found_in name list.rules) ++ cond b list.default [])) on
    ∙ with_more-nil _
