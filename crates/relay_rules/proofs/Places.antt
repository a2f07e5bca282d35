-- Rules and routes name indices of destinations.
use Rattle.std.proofs.Common.{◌≡◌, ℕ, Bool, true, false, cond, ltb, List, [], ◌∷◌, length, Option, Some, None, option_map, Ok, refl, ap, sym, ◌∙◌, filter, position}
use Rattle.std.proofs.lemmas.Bool.{lt-ltb, and_parts, and_from}
use Rattle.std.proofs.lemmas.List.Folds.{list_all-append}
use Rattle.std.proofs.lemmas.List.Quantifiers.{position-Some}
use Rattle.std.specs.List.{list_all, flat_map, find, cons_option}
use Rattle.std.specs.Option.{unwrap_or}
use Rattle.conf_text.specs.Sections.{SectionText}
use Rattle.conf_text.specs.Destination.{Destination}
use Rattle.conf_text.specs.SameDestination.{same_destination}
use Rattle.relay_base.specs.declared.dest_id.DestId.{DestId}
use Rattle.relay_rules.specs.declared.fault.RuleFault.{RuleFault}
use Rattle.relay_base.specs.DestIds.{are_below}
use Rattle.relay_base.specs.Laws.{FirstMentionsStayBelow}
use Rattle.relay_rules.specs.Rules.{RelayRule, RuleList, names_below}
use Rattle.relay_rules.specs.Destinations.{id_of, ids_of}
use Rattle.relay_rules.specs.Sections.{rule_of, rules_of, is_default, section_destinations}
use Rattle.relay_rules.specs.Faults.{file_fault}
use Rattle.relay_rules.specs.Reading.{relay_rules, rule_list_of, unless}
use Rattle.relay_rules.specs.Route.{found_in, up_to_stop, default_after, mentions, rule_route}
use Rattle.relay_rules.specs.Laws.{RouteStaysBelow}

-- ---- what is read

place_below : (dests : List Destination) (d : Destination) (place : Option ℕ) → place ≡ position (λ e. same_destination e d) dests →
    list_all (λ (id : DestId). ltb id.0 (length dests)) (cons_option (option_map (λ i. record { 0 = i }) place) []) ≡ true
place_below dests d None is = refl
place_below dests d (Some i) is =
    and_from (ltb i (length dests)) true (lt-ltb i (length dests) (position-Some (λ (e : Destination). same_destination e d) dests i d (sym is)).0) refl

all-cons : {X : Type 0} (test : X → Bool) (o : Option X) (xs : List X) → list_all test (cons_option o []) ≡ true → list_all test xs ≡ true →
    list_all test (cons_option o xs) ≡ true
all-cons test None xs h g = g
all-cons test (Some x) xs h g = and_from (test x) (list_all test xs) (and_parts (test x) true h).0 g

ids_of-below : (dests ds : List Destination) → are_below (length dests) (ids_of dests ds) ≡ true
ids_of-below dests [] = refl
ids_of-below dests (d ∷ ds) =
    all-cons (λ (id : DestId). ltb id.0 (length dests)) (id_of dests d) (ids_of dests ds) (place_below dests d _ refl) (ids_of-below dests ds)

rule_below : (dests : List Destination) (section : SectionText) (pattern : Option (List ℕ)) (continues : Bool) →
    list_all (λ (rule : RelayRule). are_below (length dests) rule.destinations)
    (cons_option (option_map (λ it. record { pattern = it; destinations = ids_of dests (section_destinations section); continues = continues }) pattern) []) ≡ true
rule_below dests section None continues = refl
rule_below dests section (Some it) continues = and_from _ true (ids_of-below dests (section_destinations section)) refl

rules_below : (dests : List Destination) (sections : List SectionText) →
    list_all (λ rule. are_below (length dests) rule.destinations) (rules_of dests sections) ≡ true
rules_below dests [] = refl
rules_below dests (section ∷ sections) =
    all-cons (λ (rule : RelayRule). are_below (length dests) rule.destinations) (rule_of dests section) (rules_of dests sections)
    (rule_below dests section _ _) (rules_below dests sections)

default_below : (dests : List Destination) (section : Option SectionText) →
    are_below (length dests) (unwrap_or (option_map (λ it. ids_of dests (section_destinations it)) section) []) ≡ true
default_below dests None = refl
default_below dests (Some section) = ids_of-below dests (section_destinations section)

said_below : (dests : List Destination) (sections : List SectionText) → names_below (length dests) (rule_list_of dests sections) ≡ true
said_below dests sections = and_from _ _ (rules_below dests sections) (default_below dests (find is_default sections))

unless_below : (dests : List Destination) (fault : Option RuleFault) (said list : RuleList) → names_below (length dests) said ≡ true → unless fault said ≡ Ok list →
    names_below (length dests) list ≡ true
unless_below dests None said list below is = ap (names_below (length dests)) (sym same) ∙ below
  where
    same : said ≡ list
    same = cc
unless_below dests (Some fault) said list below is = absurd cc

pub relay_rules_below : (refused : ℕ → Bool) (dests : List Destination) (sections : List SectionText) (list : RuleList) → relay_rules refused dests sections ≡ Ok list →
    names_below (length dests) list ≡ true
unfolding relay_rules
relay_rules_below refused dests sections list is = unless_below dests (file_fault refused [] sections) (rule_list_of dests sections) list (said_below dests sections) is

-- ---- what a route names

module _ {X : Type 0} (test : X → Bool) where
  all-kept : (x : X) (xs : List X) (b : Bool) → test x ≡ true → list_all test xs ≡ true → list_all test (cond b (x ∷ xs) xs) ≡ true
  all-kept x xs true h g = and_from (test x) (list_all test xs) h g
  all-kept x xs false h g = g

  all-filter : (keep : X → Bool) (xs : List X) → list_all test xs ≡ true → list_all test (filter keep xs) ≡ true
  all-filter keep [] h = refl
  all-filter keep (x ∷ xs) h = let both = and_parts (test x) (list_all test xs) h in all-kept x (filter keep xs) (keep x) both.0 (all-filter keep xs both.1)

cut_below : (count : ℕ) (rules : List RelayRule) (b : Bool) → list_all (λ rule. are_below count rule.destinations) rules ≡ true →
    list_all (λ rule. are_below count rule.destinations) (cond b rules []) ≡ true
cut_below count rules true h = h
cut_below count rules false h = refl

stop_below : (count : ℕ) (rules : List RelayRule) → list_all (λ rule. are_below count rule.destinations) rules ≡ true →
    list_all (λ rule. are_below count rule.destinations) (up_to_stop rules) ≡ true
stop_below count [] h = refl
stop_below count (rule ∷ rules) h =
    let both = and_parts (are_below count rule.destinations) (list_all (λ (r : RelayRule). are_below count r.destinations) rules) h in
    and_from (are_below count rule.destinations) _ both.0 (cut_below count (up_to_stop rules) rule.continues (stop_below count rules both.1))

joined_below : (count : ℕ) (rules : List RelayRule) → list_all (λ rule. are_below count rule.destinations) rules ≡ true →
    are_below count (flat_map (λ rule. rule.destinations) rules) ≡ true
joined_below count [] h = refl
joined_below count (rule ∷ rules) h =
    let both = and_parts (are_below count rule.destinations) (list_all (λ (r : RelayRule). are_below count r.destinations) rules) h in
    list_all-append (λ (it : DestId). ltb it.0 count) rule.destinations (flat_map (λ (r : RelayRule). r.destinations) rules)
    ∙ and_from (are_below count rule.destinations) _ both.0 (joined_below count rules both.1)

after_below : (count : ℕ) (ids : List DestId) (b : Bool) → are_below count ids ≡ true → are_below count (cond b ids []) ≡ true
after_below count ids true h = h
after_below count ids false h = refl

pub rule_route_below : FirstMentionsStayBelow → RouteStaysBelow
unfolding rule_route
rule_route_below mentions_below count list name h =
    let both = and_parts (list_all (λ (r : RelayRule). are_below count r.destinations) list.rules) (are_below count list.default) h in
    let found = all-filter (λ (r : RelayRule). are_below count r.destinations) _ list.rules both.0 in
    mentions_below count (mentions list name)
    (list_all-append (λ (it : DestId). ltb it.0 count) (flat_map (λ (r : RelayRule). r.destinations) (up_to_stop (found_in name list.rules))) (default_after (found_in name list.rules) list.default)
    ∙ and_from _ _ (joined_below count (up_to_stop (found_in name list.rules)) (stop_below count (found_in name list.rules) found))
    (after_below count list.default (list_all (λ (r : RelayRule). r.continues) (found_in name list.rules)) both.1))
