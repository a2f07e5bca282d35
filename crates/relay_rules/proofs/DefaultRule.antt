-- The place of the default rule does not matter.
use Rattle.std.proofs.Common.{◌≡◌, Bool, true, false, cond, List, [], ◌∷◌, ◌++◌, Option, Some, None, option_map, refl, ap, ap₂, sym, ◌∙◌, unwrap_or}
use Rattle.std.proofs.lemmas.Bool.{and_parts}
use Rattle.std.proofs.lemmas.List.Elements.{filter_map-append}
use Rattle.std.proofs.lemmas.List.Folds.{find-append}
use Rattle.std.specs.List.{find, cons_option}
use Rattle.std.specs.Option.{option_or, is_none}
use Rattle.conf_text.specs.Sections.{SectionText}
use Rattle.conf_text.specs.Destination.{Destination}
use Rattle.relay_rules.specs.Rules.{RelayRule}
use Rattle.relay_rules.specs.Destinations.{ids_of}
use Rattle.relay_rules.specs.Sections.{pattern_text, default_text, is_on, rule_of, rules_of, is_default, has_default, section_destinations}
use Rattle.relay_rules.specs.Route.{rule_route}
use Rattle.relay_rules.specs.Laws.{DefaultRuleAnywhere}
use Rattle.relay_rules.proofs.Readings.{is_none-from, any_is_found}

none_there : {A : Type 0} (o : Option A) → is_none o ≡ true → o ≡ None
none_there None h = refl
none_there (Some x) h = absurd cc

-- the default rule is not among the rules
no_rule : (dests : List Destination) (section : SectionText) → is_default section ≡ true → rule_of dests section ≡ None
no_rule dests section is =
    let both = and_parts (is_none (pattern_text section)) (is_on (default_text section)) is in
    ap (option_map _) (none_there (pattern_text section) both.0)

rules_apart : (dests : List Destination) (before after : List SectionText) (section : SectionText) → rule_of dests section ≡ None →
    rules_of dests (before ++ section ∷ after) ≡ rules_of dests (section ∷ (before ++ after))
rules_apart dests before after section none =
    filter_map-append (rule_of dests) before (section ∷ after)
    ∙ ap (λ (o : Option RelayRule). rules_of dests before ++ cons_option o (rules_of dests after)) none
    ∙ sym (ap (λ (o : Option RelayRule). cons_option o (rules_of dests (before ++ after))) none ∙ filter_map-append (rule_of dests) before after)

found_apart : (before after : List SectionText) (section : SectionText) → is_default section ≡ true → has_default before ≡ false →
    find is_default (before ++ section ∷ after) ≡ find is_default (section ∷ (before ++ after))
found_apart before after section is none =
    find-append is_default before (section ∷ after)
    ∙ ap₂ (λ (o : Option SectionText) (b : Bool). option_or o (cond b (Some section) (find is_default after)))
    (is_none-from (find is_default before) (sym (any_is_found is_default before) ∙ none)) is
    ∙ sym (ap (λ (b : Bool). cond b (Some section) (find is_default (before ++ after))) is)

pub default_anywhere : DefaultRuleAnywhere
default_anywhere dests before after section name is none =
    let rules = rules_apart dests before after section (no_rule dests section is) in
    let found = found_apart before after section is none in
    λ i. rule_route (record {
      rules = rules i;
      default = unwrap_or (option_map (λ (it : SectionText). ids_of dests (section_destinations it)) (found i)) [];
    }) name
