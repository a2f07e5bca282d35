use Rattle.std.proofs.Common.{ℕ, ◌+◌, ◌<◌, ◌≢◌, get_or}
use Rattle.hash_ring.specs.Entry.{Entry, place_of}
use Rattle.hash_ring.proofs.ring.has_equal_neighbours.Given as goal

-- no two neighbours so far have one position
abbrev pub invariant-loop-i : goal.invariant-loop-i
invariant-loop-i l = (k : ℕ) (d : Entry) → k + 1 < l.i → place_of (get_or l.entries k d) ≢ place_of (get_or l.entries (k + 1) d)
