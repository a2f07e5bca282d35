use Rattle.std.proofs.Common.{◌≡◌, ℕ, true, false, ◌+◌, List, ◌∷◌, length, take, ◌++◌, drop, get_or, set, arith, ap, sym, ◌∙◌}
use Rattle.std.proofs.lemmas.List.{take_at, drop_all, set-get_or}
use Rattle.std.specs.List.{list_all, flat_map}
use Rattle.patterns.specs.Pattern.{is_found}
use Rattle.relay_rules.specs.Rules.{RelayRule, pattern_of}
use Rattle.relay_rules.specs.Destinations.{with_more}
use Rattle.relay_rules.specs.Route.{found_in, up_to_stop}
use Rattle.relay_rules.proofs.route.follow.Goals as goal
use Rattle.relay_rules.proofs.Following.{found_in-drop, found_in-skip, list_all-continuing, list_all-stopped, with_more-continuing, with_more-stopped}

-- a rule in its place that did not change
unchanged_in : (rules all : List RelayRule) (i : ℕ) (rule new : RelayRule) → new ≡ rule → rule ≡ get_or rules i rule → rules ≡ all → set rules i new ≡ all
unchanged_in rules all i rule new after is same = ap (λ (r : RelayRule). set rules i r) (after ∙ is) ∙ set-get_or rules i rule ∙ same

-- the rules are where they were again
returned : (rules rest all : List RelayRule) (count : ℕ) → rules ≡ all → count ≡ length all → take count (rules ++ rest) ≡ all
returned rules rest all count same size = take_at rules rest count (ap length same ∙ sym size) ∙ same

pub loop-rule-preserved : goal.loop-rule-preserved
loop-rule-preserved c =
    let before = c.loop-rule.invariant in
    let all = c.args.rules.now.items in
    let i = c.loop-rule.rule-index in
    let rule = c.rule-item.result in
    let route = c.loop-rule.route.items in
    let name = c.args.name.now in
    let later = found_in name (drop (i + 1) all) in
    let here : rule ≡ get_or all i rule = rw before.same at c.rule-item.is in
    let found : is_found (pattern_of rule) name ≡ true =
    ap (λ (r : RelayRule). is_found (pattern_of r) name) c.rule-item.is ∙ sym c.is_found.ensures.found ∙ c.if-not-is_found.false in
    let after : c.is_found.new.self ≡ rule = c.is_found.ensures.same ∙ sym c.rule-item.is in
    let on : rule.continues ≡ true = ap (λ (r : RelayRule). r.continues) (sym after) ∙ sym c.continues.ensures ∙ c.if-not-continues.false in
    let step = found_in-drop name all i rule (omega (arith, ap length before.same)) here found in
    record {
      same = unchanged_in c.loop-rule.rule-items all i rule c.is_found.new.self after c.rule-item.is before.same;
      goes_on = list_all-continuing rule later on ∙ ap (list_all (λ (r : RelayRule). r.continues)) (sym step) ∙ before.goes_on;
      route = rw (c.in_ok-mention.ensures, c.destinations.ensures, after)
          (with_more-continuing route rule later on
          ∙ ap (λ (rs : List RelayRule). with_more route (flat_map (λ (r : RelayRule). r.destinations) (up_to_stop rs))) (sym step)
          ∙ before.route);
    }

pub loop-rule-preserved-then-not-is_found : goal.loop-rule-preserved-then-not-is_found
loop-rule-preserved-then-not-is_found c =
    let before = c.loop-rule.invariant in
    let all = c.args.rules.now.items in
    let i = c.loop-rule.rule-index in
    let rule = c.rule-item.result in
    let name = c.args.name.now in
    let here : rule ≡ get_or all i rule = rw before.same at c.rule-item.is in
    let skipped : is_found (pattern_of rule) name ≡ false =
    ap (λ (r : RelayRule). is_found (pattern_of r) name) c.rule-item.is ∙ sym c.is_found.ensures.found ∙ c.if-not-is_found.true in
    let after : c.is_found.new.self ≡ rule = c.is_found.ensures.same ∙ sym c.rule-item.is in
    let step = found_in-skip name all i rule (omega (arith, ap length before.same)) here skipped in
    record {
      same = unchanged_in c.loop-rule.rule-items all i rule c.is_found.new.self after c.rule-item.is before.same;
      goes_on = ap (list_all (λ (r : RelayRule). r.continues)) (sym step) ∙ before.goes_on;
      route = ap (λ (rs : List RelayRule). with_more c.loop-rule.route.items (flat_map (λ (r : RelayRule). r.destinations) (up_to_stop rs))) (sym step) ∙ before.route;
    }

-- ---- a rule that is met and does not continue

abbrev met_rule : goal.After-rules-then-not-continues-1 → RelayRule
met_rule c = c.rule-item.result

abbrev later_rules : goal.After-rules-then-not-continues-1 → List RelayRule
later_rules c = found_in c.args.name.now (drop (c.loop-rule.rule-index + 1) c.args.rules.now.items)

unchanged : (c : goal.After-rules-then-not-continues-1) → c.is_found.new.self ≡ met_rule c
unchanged c = c.is_found.ensures.same ∙ sym c.rule-item.is

stops : (c : goal.After-rules-then-not-continues-1) → (met_rule c).continues ≡ false
stops c = ap (λ (r : RelayRule). r.continues) (sym (unchanged c)) ∙ sym c.continues.ensures ∙ c.if-not-continues.true

met : (c : goal.After-rules-then-not-continues-1) → found_in c.args.name.now (drop c.loop-rule.rule-index c.args.rules.now.items) ≡ met_rule c ∷ later_rules c
met c =
    let before = c.loop-rule.invariant in
    let name = c.args.name.now in
    let here : met_rule c ≡ get_or c.args.rules.now.items c.loop-rule.rule-index (met_rule c) = rw before.same at c.rule-item.is in
    let found : is_found (pattern_of (met_rule c)) name ≡ true =
    ap (λ (r : RelayRule). is_found (pattern_of r) name) c.rule-item.is ∙ sym c.is_found.ensures.found ∙ c.if-not-is_found.false in
    found_in-drop name c.args.rules.now.items c.loop-rule.rule-index (met_rule c) (omega (arith, ap length before.same)) here found

pub returns-then-not-continues-clause-goes_on : goal.returns-then-not-continues-clause-goes_on
returns-then-not-continues-clause-goes_on c =
    list_all-stopped (met_rule c) (later_rules c) (stops c) ∙ ap (list_all (λ (r : RelayRule). r.continues)) (sym (met c)) ∙ c.loop-rule.invariant.goes_on

pub returns-then-not-continues-clause-route : goal.returns-then-not-continues-clause-route
returns-then-not-continues-clause-route c =
    let route = c.loop-rule.route.items in
    c.in_ok-mention.ensures
    ∙ ap (with_more route) c.destinations.ensures
    ∙ ap (λ (r : RelayRule). with_more route r.destinations) (unchanged c)
    ∙ with_more-stopped route (met_rule c) (later_rules c) (stops c)
    ∙ ap (λ (rs : List RelayRule). with_more route (flat_map (λ (r : RelayRule). r.destinations) (up_to_stop rs))) (sym (met c))
    ∙ c.loop-rule.invariant.route

pub returns-then-not-continues-clause-same : goal.returns-then-not-continues-clause-same
returns-then-not-continues-clause-same c =
    let all = c.args.rules.now in
    returned _ _ all.items all.len
    (unchanged_in c.loop-rule.rule-items all.items c.loop-rule.rule-index (met_rule c) c.is_found.new.self (unchanged c) c.rule-item.is c.loop-rule.invariant.same) all.ok.0

pub returns-in_err-mention-clause-same : goal.returns-in_err-mention-clause-same
returns-in_err-mention-clause-same c =
    let all = c.args.rules.now in
    let rule = c.rule-item in
    returned _ _ all.items all.len
    (unchanged_in c.loop-rule.rule-items all.items c.loop-rule.rule-index rule.result c.is_found.new.self (c.is_found.ensures.same ∙ sym rule.is) rule.is c.loop-rule.invariant.same) all.ok.0

-- ---- no rule that is met stops

pub returns-clause-goes_on : goal.returns-clause-goes_on
returns-clause-goes_on c =
    let before = c.loop-rule.invariant in
    let none = drop_all c.loop-rule.rule-index c.args.rules.now.items (omega (arith, ap length before.same)) in
    ap (λ (rs : List RelayRule). list_all (λ (r : RelayRule). r.continues) (found_in c.args.name.now rs)) (sym none) ∙ before.goes_on

pub returns-clause-route : goal.returns-clause-route
returns-clause-route c =
    let before = c.loop-rule.invariant in
    let none = drop_all c.loop-rule.rule-index c.args.rules.now.items (omega (arith, ap length before.same)) in
    ap (λ (rs : List RelayRule). with_more c.loop-rule.route.items (flat_map (λ (r : RelayRule). r.destinations) (up_to_stop (found_in c.args.name.now rs)))) (sym none) ∙ before.route

pub returns-clause-same : goal.returns-clause-same
returns-clause-same c = let all = c.args.rules.now in returned _ _ all.items all.len c.loop-rule.invariant.same all.ok.0
