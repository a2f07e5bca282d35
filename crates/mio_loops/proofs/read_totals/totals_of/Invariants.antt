use Rattle.std.proofs.Common.{◌≡◌, map, take}
use Rattle.reader_counts.specs.Counts.{totals_of}
use Rattle.mio_loops.proofs.read_totals.totals_of.Given as goal

-- the totals of the readers so far
abbrev pub invariant-loop-reader : goal.invariant-loop-reader
invariant-loop-reader l = l.totals ≡ totals_of (map (λ r. r.totals) (take l.reader-index l.readers))
