use Rattle.std.proofs.Common.{◌≡◌, map, take}
use Rattle.hash_ring.specs.Servers.{server_number}
use Rattle.hash_ring.proofs.servers.servers_of.Given as goal

-- the servers of the destinations before this one
abbrev pub invariant-loop-node : goal.invariant-loop-node
invariant-loop-node l = l.servers.items ≡ map (server_number l.nodes) (take l.node-index l.nodes)
