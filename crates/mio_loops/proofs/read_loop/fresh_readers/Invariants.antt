use Rattle.std.proofs.Common.{◌≡◌, ◌≤◌, length}
use Rattle.std.specs.Vec.{vec_capacity}
use Rattle.mio_loops.specs.StoredLoop.{AllFresh}
use Rattle.mio_loops.proofs.read_loop.fresh_readers.Given as goal

-- the readers made so far
abbrev pub invariant-loop : goal.invariant-loop
invariant-loop l = record {
  count : length l.readers.items ≡ l.counter;
  room : 1024 ≤ vec_capacity l.readers;
  fresh : AllFresh l.kind l.readers.items;
}
