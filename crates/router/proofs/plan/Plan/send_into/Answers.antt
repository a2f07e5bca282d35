use Rattle.std.proofs.Common.{rules}
use Rattle.router.specs.Seen.{routing_seen}
use Rattle.router.proofs.Known.{right_found}
use Rattle.router.proofs.plan.Plan.send_into.Goals as goal

pub returns-in-Some-clause-sent : goal.returns-in-Some-clause-sent
returns-in-Some-clause-sent c =
    let found = c.in-Some.ensures in
    let right = right_found c.self.inside.rewrite (routing_seen c.self.inside.routing) c.self.inside.names _ c.in-Some.entry.now found c.self.invariant.1 in
    let named = found.name in
    let sent = right.sent in
    let dests = right.dests in
    search rules

pub returns-in-Some-clause-below : goal.returns-in-Some-clause-below
returns-in-Some-clause-below c =
    let found = c.in-Some.ensures in
    let right = right_found c.self.inside.rewrite (routing_seen c.self.inside.routing) c.self.inside.names _ c.in-Some.entry.now found c.self.invariant.1 in
    let named = found.name in
    let dests = right.dests in
    search rules
