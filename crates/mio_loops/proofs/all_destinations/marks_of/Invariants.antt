use Rattle.std.proofs.Common.{◌≡◌, ◌<◌, ℕ, false, take, slice_index_or}
use Rattle.mio_loops.specs.WriteLoop.{is_among}
use Rattle.mio_loops.proofs.all_destinations.marks_of.Given as goal

-- the marks of those so far
abbrev pub invariant-loop-dest : goal.invariant-loop-dest
invariant-loop-dest l =
    (dest : ℕ) → dest < 64
    → slice_index_or l.marks dest false ≡ is_among (take l.dest-index l.ready) dest
