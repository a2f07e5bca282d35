use Rattle.std.proofs.Common.{rules, sym}
use Rattle.router.specs.Seen.{routing_seen}
use Rattle.router.proofs.Known.{right_promoted, right_first}
use Rattle.router.proofs.plan.Plan.send_other.Goals as goal

pub invariant_of-self : goal.invariant_of-self
invariant_of-self c =
    let rules_of = c.self.inside.rewrite in
    let routing = routing_seen c.self.inside.routing in
    let among = right_promoted rules_of routing c.self.inside.recent c.promote.new.self c.promote.ensures.kept c.self.invariant.2 in
    let right = right_first rules_of routing c.promote.new.self (c.in-Some.key.now, c.in-Some.route.now) (sym c.in-Some.ensures) among in
    (c.self.invariant.0, c.keep_share.ensures rules_of routing right c.self.invariant.1, among)

pub returns-then-promote-clause-sent : goal.returns-then-promote-clause-sent
returns-then-promote-clause-sent c =
    let among = right_promoted c.self.inside.rewrite (routing_seen c.self.inside.routing) c.self.inside.recent c.promote.new.self c.promote.ensures.kept c.self.invariant.2 in
    let right = right_first c.self.inside.rewrite (routing_seen c.self.inside.routing) c.promote.new.self (c.in-Some.key.now, c.in-Some.route.now) (sym c.in-Some.ensures) among in
    let sent = right.sent in
    let dests = right.dests in
    search rules

pub invariant_of-self-else-promote : goal.invariant_of-self-else-promote
invariant_of-self-else-promote c =
    (c.self.invariant.0, c.self.invariant.1, right_promoted c.self.inside.rewrite (routing_seen c.self.inside.routing) c.self.inside.recent c.promote.new.self c.promote.ensures.kept c.self.invariant.2)
