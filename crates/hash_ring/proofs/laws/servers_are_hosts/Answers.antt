use Rattle.hash_ring.proofs.ServerLemmas.{servers_hosts}
use Rattle.hash_ring.proofs.laws.servers_are_hosts.Goals as goal

pub returns : goal.returns
returns c = servers_hosts
