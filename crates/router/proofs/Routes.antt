-- Routes by rules and by the ring.
use Rattle.relay_rules.specs.Laws.{RouteNamesEachOnce as RuleRouteNamesEachOnce, RouteStaysBelow as RuleRouteStaysBelow}
use Rattle.hash_ring.specs.Key.{position_of}
use Rattle.hash_ring.specs.Laws.{ChoiceNamesEachOnce, ChoiceStaysBelow}
use Rattle.router.specs.Plan.{ByRules, ByRing}
use Rattle.router.specs.Laws.{RouteNamesEachOnce, RouteStaysBelow}

pub each_once : RuleRouteNamesEachOnce → ChoiceNamesEachOnce → RouteNamesEachOnce
each_once by_rules by_ring (ByRules list) name = by_rules list name
each_once by_rules by_ring (ByRing ring factor diverse) name = by_ring ring (position_of name) factor diverse

pub stays : RuleRouteStaysBelow → ChoiceStaysBelow → RouteStaysBelow
stays by_rules by_ring count (ByRules list) name below = by_rules count list name below
stays by_rules by_ring count (ByRing ring factor diverse) name below = by_ring count ring (position_of name) factor diverse below
