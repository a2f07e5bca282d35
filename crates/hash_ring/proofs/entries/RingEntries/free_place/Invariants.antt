use Rattle.std.proofs.Common.{◌≡◌, ℕ, ◌+◌, ◌-◌, ◌<◌, ◌≤◌, true, length}
use Rattle.hash_ring.specs.Entry.{is_taken}
use Rattle.hash_ring.specs.Placing.{first_free, free_place}
use Rattle.hash_ring.proofs.entries.RingEntries.free_place.Given as goal

-- all positions before this one are taken, and the free one is found from here on
abbrev pub invariant-loop-self : goal.invariant-loop-self
invariant-loop-self l = record {
  from : l.wanted ≤ l.free;
  run : (k : ℕ) → l.wanted ≤ k → k < l.free → is_taken l.self-inside.entries.items k ≡ true;
  within : l.free ≤ l.wanted + length l.self-inside.entries.items;
  search : first_free l.self-inside.entries.items l.free (l.wanted + length l.self-inside.entries.items - l.free) ≡ free_place l.self-inside.entries.items l.wanted;
}

abbrev pub decreases-loop-self : goal.decreases-loop-self
decreases-loop-self l = l.wanted + length l.self-inside.entries.items - l.free
