use Rattle.std.proofs.Common.{◌≡◌, ◌≤◌, replicate, vec_capacity}
use Rattle.mio_loops.specs.WriteLoop.{fresh_outgoing}
use Rattle.mio_loops.proofs.write_loop.WriteLoop.new.Given as goal

-- the destinations made so far
abbrev pub invariant-loop : goal.invariant-loop
invariant-loop g l = record {
  made : l.destinations.items ≡ replicate l.counter (fresh_outgoing l.limit);
  room : l.dests ≤ vec_capacity l.destinations;
}
