use Rattle.std.proofs.Common.{◌≡◌, ◌*◌, [], take, length, flat_map}
use Rattle.std.specs.List.{enumerate_from}
use Rattle.hash_ring.specs.declared.entries.TheConstants.{REPLICAS}
use Rattle.hash_ring.specs.Placing.{with_entries, replicas}
use Rattle.hash_ring.proofs.entries.RingEntries.of_nodes.Given as goal

-- the replicas of the nodes before this one are placed
abbrev pub invariant-loop-id : goal.invariant-loop-id
invariant-loop-id l = record {
  placed : l.entries ≡ with_entries [] (flat_map replicas (take l.id (enumerate_from 0 l.nodes)));
  room : length l.entries ≡ REPLICAS * l.id;
}
