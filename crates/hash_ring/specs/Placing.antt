-- How the ring of a list of destinations is made.
use Rattle.std.specs.Prelude.{ℕ, zero, suc, ◌+◌, List, [], ◌∷◌, ◌++◌, map, length, if◌then◌else◌}
use Rattle.std.specs.List.{range_with_len, enumerate_from, flat_map}
use Rattle.conf_text.specs.Destination.{Destination}
use Rattle.hash_ring.specs.Key.{position_of, replica_key}
use Rattle.hash_ring.specs.Entry.{Entry, place_of, node_of, is_taken}

-- the first of the positions p, p + 1, .. that is not taken, if at most the first n of them are
abbrev pub first_free : List Entry → ℕ → ℕ → ℕ
first_free entries p zero = p
first_free entries p (suc n) = if is_taken entries p then first_free entries (p + 1) n else p

-- the least position from the wanted one on that is not taken: no more positions are taken than there are
-- entries
abbrev pub free_place : List Entry → ℕ → ℕ
free_place entries wanted = first_free entries wanted (length entries)

-- the entries with one more, at the free position that its wanted position gives
abbrev pub with_entry : List Entry → Entry → List Entry
with_entry entries wanted = entries ++ (free_place entries (place_of wanted), node_of wanted) ∷ []

-- the entries with more, added in order
abbrev pub with_entries : List Entry → List Entry → List Entry
with_entries entries [] = entries
with_entries entries (w ∷ ws) = with_entries (with_entry entries w) ws

-- the wanted position of replica i of a numbered node: that of its key
abbrev pub replica : ℕ × Destination → ℕ → Entry
replica numbered i = (position_of (replica_key numbered.1 i), record { 0 = numbered.0 })

-- what its 100 replicas want, i rising
abbrev pub replicas : ℕ × Destination → List Entry
replicas numbered = map (replica numbered) (range_with_len 0 100)

-- the ring's entries: the replicas of all nodes, added in the order of DESTINATIONS
abbrev pub entries_of : List Destination → List Entry
entries_of destinations = with_entries [] (flat_map replicas (enumerate_from 0 destinations))
