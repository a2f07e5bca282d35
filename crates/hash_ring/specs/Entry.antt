-- Entries of the ring.
use Rattle.std.specs.Prelude.{◌≡◌, ℕ, ◌<◌, Bool, true, false, ◌==◌, ◌||◌, List, [], ◌∷◌, map, length}
use Rattle.std.specs.List.Sorted.{IsNonDecreasingBy}
use Rattle.std.specs.List.{list_any}
use Rattle.relay_base.specs.declared.dest_id.DestId.{DestId}
use Rattle.relay_base.specs.DestIds.{are_below}

-- an entry: a position on the ring, and the node there
abbrev pub Entry : Type 0
Entry = ℕ × DestId

-- the position of an entry
abbrev pub place_of : Entry → ℕ
place_of e = e.0

-- the node of an entry
abbrev pub node_of : Entry → DestId
node_of e = e.1

-- whether an entry is at this position
abbrev pub is_taken : List Entry → ℕ → Bool
is_taken entries p = list_any (λ e. place_of e == p) entries

-- whether two of the entries are at one position
abbrev pub has_shared_place : List Entry → Bool
has_shared_place [] = false
has_shared_place (e ∷ es) = is_taken es (place_of e) || has_shared_place es

-- entries, and the server of each node by its number
pub record Ring : Type 0 where
  pub entries : List Entry
  pub servers : List ℕ

-- a ring has at least one entry, in rising order of position, each at its own position and of a node that has a
-- server
pub record IsRing (ring : Ring) : Type 0 where
  pub at_least_one : 0 < length ring.entries
  pub in_order : IsNonDecreasingBy place_of ring.entries
  pub apart : has_shared_place ring.entries ≡ false
  pub on_servers : are_below (length ring.servers) (map node_of ring.entries) ≡ true
