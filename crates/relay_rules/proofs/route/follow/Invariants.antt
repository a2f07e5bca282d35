use Rattle.std.proofs.Common.{◌≡◌, drop}
use Rattle.std.specs.List.{list_all, flat_map}
use Rattle.relay_rules.specs.Destinations.{with_more}
use Rattle.relay_rules.specs.Route.{found_in, up_to_stop}
use Rattle.relay_rules.proofs.route.follow.Given as goal

-- what is left gives what all gave
abbrev pub invariant-loop-rule : goal.invariant-loop-rule
invariant-loop-rule l = record {
  same : l.rule-items ≡ l.fn.rules.items;
  goes_on : list_all (λ rule. rule.continues) (found_in l.name (drop l.rule-index l.fn.rules.items)) ≡ list_all (λ rule. rule.continues) (found_in l.name l.fn.rules.items);
  route : with_more l.route.items (flat_map (λ rule. rule.destinations) (up_to_stop (found_in l.name (drop l.rule-index l.fn.rules.items))))
      ≡ with_more l.initial.route.items (flat_map (λ rule. rule.destinations) (up_to_stop (found_in l.name l.fn.rules.items)));
}
