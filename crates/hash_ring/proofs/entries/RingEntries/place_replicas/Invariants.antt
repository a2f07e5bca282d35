use Rattle.std.proofs.Common.{◌≡◌, ◌+◌, map, length}
use Rattle.std.specs.List.{range_with_len}
use Rattle.hash_ring.specs.Placing.{with_entries, replica}
use Rattle.hash_ring.proofs.entries.RingEntries.place_replicas.Given as goal

-- the replicas before this one are placed
abbrev pub invariant-loop-i : goal.invariant-loop-i
invariant-loop-i l = record {
  placed : l.self ≡ with_entries l.fn.self (map (replica (l.id.0, l.node)) (range_with_len 0 l.i));
  room : length l.self ≡ length l.fn.self + l.i;
}
