use Rattle.std.proofs.Common.{map, ap, ◌∙◌}
use Rattle.std.proofs.lemmas.List.{take_all}
use Rattle.hash_ring.specs.Servers.{server_number}
use Rattle.hash_ring.proofs.ServerLemmas.{numbers_more}
use Rattle.hash_ring.proofs.servers.servers_of.Goals as goal

pub loop-node-preserved : goal.loop-node-preserved
loop-node-preserved c =
    numbers_more c.args.nodes.now c.loop-node.node-index c.node-item.result c.loop-node.servers.items c.push.new.self.items c.server_number.result c.loop-node-test.true
    c.node-item.is c.server_number.ensures c.loop-node.invariant c.in_ok-push.ensures.items

pub returns-clause-servers : goal.returns-clause-servers
returns-clause-servers c =
    c.loop-node.invariant ∙ ap (map (server_number c.args.nodes.now)) (take_all c.loop-node.node-index c.args.nodes.now c.loop-node-test.false)
