use Rattle.relay_rules.specs.Rules.{RuleList}
use Rattle.relay_rules.proofs.Routes.{rule_route-is}
use Rattle.relay_rules.proofs.rules.RelayRules.route_into.Goals as goal
use Rattle.relay_rules.proofs.rules.RelayRules.route_into.Goals.{then-branch+in_ok-mention, else-branch}

pub returns-clause-route : goal.returns-clause-route
returns-clause-route c =
    let met = rw c.clear.ensures.items at c.in_ok-follow.ensures.route in
    let list : RuleList = record { rules = c.self.inside.rules.items; default = c.self.inside.default.items } in
    let is = rule_route-is list c.text.result.now c.in_ok-follow.field-0 c.follow.new.route.items c.in_ok-follow.ensures.goes_on met in
    elim c.if-branch.branch [
      | then-branch+in_ok-mention w ↦
          rw (w.route-is, w.in_ok-mention.ensures, w.as_slice.ensures.value, ← c.self.view_is, ← c.text.ensures.value) (rw w.if-branch.true at is)
      | else-branch w ↦ rw (w.route-is, ← c.self.view_is, ← c.text.ensures.value) (rw w.if-branch.false at is)
    ]
