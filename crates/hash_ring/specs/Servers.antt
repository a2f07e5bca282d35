-- The servers that nodes are on.
use Rattle.std.specs.Prelude.{ℕ, List, map, get_or, length, position, unwrap_or}
use Rattle.std.specs.Str.{bytes_eq}
use Rattle.conf_text.specs.Destination.{Destination}
use Rattle.relay_base.specs.declared.dest_id.DestId.{DestId}

-- the server of a node: its number in the list, which has one for each node of a ring
abbrev pub server_of : List ℕ → DestId → ℕ
server_of servers node = get_or servers node.0 0

-- the number of a destination's server: the first index that has its host, byte for byte
abbrev pub server_number : List Destination → Destination → ℕ
server_number destinations d =
    unwrap_or (position (λ other. bytes_eq other.host d.host) destinations) (length destinations)

-- the numbers of all their servers, in the order of the list
abbrev pub servers_of : List Destination → List ℕ
servers_of destinations = map (server_number destinations) destinations
