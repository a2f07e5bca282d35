-- The rules that a name meets, one after the other.
use Rattle.std.proofs.Common.{◌≡◌, ℕ, ◌+◌, ◌<◌, ◌&&◌, Bool, true, false, cond, List, [], ◌∷◌, ◌++◌, length, drop, get_or, ap, sym, ◌∙◌}
use Rattle.std.proofs.lemmas.List.{append-nil, at_drop_more}
use Rattle.std.specs.List.{list_all, flat_map}
use Rattle.relay_base.specs.declared.dest_id.DestId.{DestId}
use Rattle.patterns.specs.Pattern.{is_found}
use Rattle.relay_rules.specs.Rules.{RelayRule, pattern_of}
use Rattle.relay_rules.specs.Destinations.{with_more}
use Rattle.relay_rules.specs.Route.{found_in, up_to_stop}
use Rattle.relay_rules.proofs.Mentions.{with_more-append}

-- a rule at a place that is met
pub found_in-drop : (name : List ℕ) (rules : List RelayRule) (i : ℕ) (rule : RelayRule) → i < length rules → rule ≡ get_or rules i rule →
    is_found (pattern_of rule) name ≡ true → found_in name (drop i rules) ≡ rule ∷ found_in name (drop (i + 1) rules)
found_in-drop name rules i rule lt is found =
    at_drop_more (found_in name) rules i rule lt
    ∙ ap (λ (r : RelayRule). cond (is_found (pattern_of r) name) (r ∷ found_in name (drop (i + 1) rules)) (found_in name (drop (i + 1) rules))) (sym is)
    ∙ ap (λ (b : Bool). cond b (rule ∷ found_in name (drop (i + 1) rules)) (found_in name (drop (i + 1) rules))) found

-- a rule at a place that is not met
pub found_in-skip : (name : List ℕ) (rules : List RelayRule) (i : ℕ) (rule : RelayRule) → i < length rules → rule ≡ get_or rules i rule →
    is_found (pattern_of rule) name ≡ false → found_in name (drop i rules) ≡ found_in name (drop (i + 1) rules)
found_in-skip name rules i rule lt is skipped =
    at_drop_more (found_in name) rules i rule lt
    ∙ ap (λ (r : RelayRule). cond (is_found (pattern_of r) name) (r ∷ found_in name (drop (i + 1) rules)) (found_in name (drop (i + 1) rules))) (sym is)
    ∙ ap (λ (b : Bool). cond b (rule ∷ found_in name (drop (i + 1) rules)) (found_in name (drop (i + 1) rules))) skipped

-- a rule that continues leaves it to the others whether the search ends
pub list_all-continuing : (rule : RelayRule) (rules : List RelayRule) → rule.continues ≡ true →
    list_all (λ r. r.continues) rules ≡ list_all (λ r. r.continues) (rule ∷ rules)
list_all-continuing rule rules on = ap (λ (b : Bool). b && list_all (λ (r : RelayRule). r.continues) rules) (sym on)

-- and its destinations are before theirs
pub with_more-continuing : (ids : List DestId) (rule : RelayRule) (rules : List RelayRule) → rule.continues ≡ true →
    with_more (with_more ids rule.destinations) (flat_map (λ r. r.destinations) (up_to_stop rules))
    ≡ with_more ids (flat_map (λ r. r.destinations) (up_to_stop (rule ∷ rules)))
with_more-continuing ids rule rules on =
    with_more-append ids rule.destinations (flat_map (λ r. r.destinations) (up_to_stop rules))
    ∙ ap (λ (b : Bool). with_more ids (rule.destinations ++ flat_map (λ (r : RelayRule). r.destinations) (cond b (up_to_stop rules) []))) (sym on)

-- a rule that does not continue ends the search
pub list_all-stopped : (rule : RelayRule) (rules : List RelayRule) → rule.continues ≡ false →
    false ≡ list_all (λ r. r.continues) (rule ∷ rules)
list_all-stopped rule rules off = ap (λ (b : Bool). b && list_all (λ (r : RelayRule). r.continues) rules) (sym off)

-- and no destinations are after its own
pub with_more-stopped : (ids : List DestId) (rule : RelayRule) (rules : List RelayRule) → rule.continues ≡ false →
    with_more ids rule.destinations ≡ with_more ids (flat_map (λ r. r.destinations) (up_to_stop (rule ∷ rules)))
with_more-stopped ids rule rules off =
    ap (with_more ids) (sym (append-nil rule.destinations))
    ∙ ap (λ (b : Bool). with_more ids (rule.destinations ++ flat_map (λ (r : RelayRule). r.destinations) (cond b (up_to_stop rules) []))) (sym off)
