use Rattle.std.proofs.Common.{ℕ, List, subst}
use Rattle.router.specs.Route.{IsRouteOf}
use Rattle.router.specs.Seen.{routing_seen}
use Rattle.router.proofs.plan.Plan.send_new.Goals as goal

pub invariant_of-self : goal.invariant_of-self
invariant_of-self c = rw c.of.ensures.rewrite (rw c.of.ensures.routing c.self.invariant)

pub invariant_of-self-in_err-sent : goal.invariant_of-self-in_err-sent
invariant_of-self-in_err-sent c = rw c.of.ensures.rewrite (rw c.of.ensures.routing c.self.invariant)

pub invariant_of-self-2 : goal.invariant_of-self-2
invariant_of-self-2 c =
    let rules_of = c.self.inside.rewrite in
    let routing = routing_seen c.self.inside.routing in
    let right = subst (λ (name : List ℕ). IsRouteOf rules_of routing (name, c.in_ok-route.route)) c.key.view_is c.in_ok-route.ensures.right in
    rw c.of.ensures.rewrite (rw c.of.ensures.routing (
      c.self.invariant.0,
      c.remember.ensures.names rules_of routing right c.self.invariant.1,
      c.remember.ensures.recent rules_of routing right c.self.invariant.2,
    ))
