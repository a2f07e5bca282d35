use Rattle.std.proofs.Common.{◌≡◌, ◌≤◌, ◌+◌, ◌++◌, length, map, vec_len, vec_capacity}
use Rattle.std.specs.Vec.Iter.{into_iter_items, into_iter_len}
use Rattle.mio_loops.specs.LeftWriter.{IsGivenEach}
use Rattle.mio_loops.proofs.write_loop.WriteLoop.release.Given as goal

-- the logs so far, with those that are left, are all; and once the taker is given the others too, it was given each
abbrev pub invariant-loop-destination : goal.invariant-loop-destination
invariant-loop-destination g l = record {
  logs : l.logs.items ++ map (λ o. o.log) (into_iter_items l.destination-iterator)
      ≡ map (λ o. o.log) (into_iter_items l.initial.destination-iterator);
  room : vec_len l.logs + length (into_iter_items l.destination-iterator) ≤ vec_capacity l.logs;
  left : (after : g.row.T.Denot)
      → IsGivenEach g.T.LeftTaker.takes l.dest (into_iter_items l.destination-iterator) l.taker after
      → IsGivenEach g.T.LeftTaker.takes 0 (into_iter_items l.initial.destination-iterator) l.fn.taker after;
  few : l.dest + length (into_iter_items l.destination-iterator) ≤ 64;
  count : into_iter_len l.destination-iterator ≡ length (into_iter_items l.destination-iterator);
}
