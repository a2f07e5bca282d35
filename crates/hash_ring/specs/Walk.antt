-- The walk of a position, and the nodes that it chooses.
use Rattle.std.specs.Prelude.{ℕ, Bool, not, ◌==◌, nat_le, nat_lt, List, [], ◌∷◌, ◌++◌, map, filter, take, if◌then◌else◌}
use Rattle.relay_base.specs.declared.dest_id.DestId.{DestId}
use Rattle.relay_base.specs.DestIds.{first_mentions}
use Rattle.hash_ring.specs.Entry.{Entry, Ring, place_of, node_of}
use Rattle.hash_ring.specs.Servers.{server_of}

-- rising entries, with one more in its order
abbrev pub with_rising : Entry → List Entry → List Entry
with_rising e [] = e ∷ []
with_rising e (x ∷ xs) =
    if nat_le (place_of e) (place_of x) then e ∷ (x ∷ xs) else x ∷ with_rising e xs

-- the entries in rising order of position
abbrev pub in_rising_order : List Entry → List Entry
in_rising_order [] = []
in_rising_order (e ∷ es) = with_rising e (in_rising_order es)

-- the entries at or above a position
abbrev pub from_position : ℕ → List Entry → List Entry
from_position position entries = filter (λ e. nat_le position (place_of e)) entries

-- the entries below a position
abbrev pub below_position : ℕ → List Entry → List Entry
below_position position entries = filter (λ e. nat_lt (place_of e) position) entries

-- the walk of a position: the entries at or above it in rising order, then the others in rising order
abbrev pub walk : List Entry → ℕ → List Entry
walk entries position =
    in_rising_order (from_position position entries)
    ++ in_rising_order (below_position position entries)

-- the nodes of the entries, each once
abbrev pub nodes_of : List Entry → List DestId
nodes_of entries = first_mentions (map node_of entries)

-- the nodes taken from these, read in order, skipping each whose mark is that of a node already taken
abbrev pub taken_by : (DestId → ℕ) → List DestId → List DestId
taken_by mark [] = []
taken_by mark (n ∷ ns) = n ∷ filter (λ other. not (mark n == mark other)) (taken_by mark ns)

-- the mark of a node: its server if replicas are diverse, and the node itself if they are not
abbrev pub mark_of : List ℕ → Bool → DestId → ℕ
mark_of servers diverse node = if diverse then server_of servers node else node.0

-- the choice of a position: the first nodes taken from its walk, as many as the factor, or all if there are fewer
abbrev pub choice : Ring → ℕ → ℕ → Bool → List DestId
choice ring position factor diverse =
    take factor (taken_by (mark_of ring.servers diverse) (map node_of (walk ring.entries position)))
