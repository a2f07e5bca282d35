-- Laws above the definitions.
use Rattle.std.specs.Prelude.{◌≡◌, ℕ, ◌≤◌, ◌<◌, Bool, true, false, not, ◌==◌, ◌↔◌, List, [], ◌∷◌, ◌++◌, map, filter, get_or, take, length, All, Contains}
use Rattle.std.specs.List.{IsDistinct}
use Rattle.std.specs.List.Sorted.{IsPermutation, IsNonDecreasingBy}
use Rattle.conf_text.specs.Destination.{Destination}
use Rattle.relay_base.specs.declared.dest_id.DestId.{DestId}
use Rattle.relay_base.specs.DestIds.{same_id, are_below, NamesEachOnce}
use Rattle.hash_ring.specs.Entry.{Entry, Ring, place_of, node_of, is_taken}
use Rattle.hash_ring.specs.Placing.{free_place}
use Rattle.hash_ring.specs.RingOf.{ring_of}
use Rattle.hash_ring.specs.Servers.{server_of, servers_of}
use Rattle.hash_ring.specs.Walk.{in_rising_order, walk, nodes_of, choice}

-- p is the least position from the wanted one on that is not taken
pub record IsLeastFree (entries : List Entry) (wanted p : ℕ) : Type 0 where
  pub from : wanted ≤ p
  pub free : is_taken entries p ≡ false
  pub least : (k : ℕ) → wanted ≤ k → k < p → is_taken entries k ≡ true

-- the free position is the least one
abbrev pub FreePlaceIsLeast : Type 0
FreePlaceIsLeast =
    (entries : List Entry) (wanted : ℕ) → IsLeastFree entries wanted (free_place entries wanted)

-- the entries in rising order are the entries, and each is no higher than those after it
pub record IsInOrder (entries ordered : List Entry) : Type 0 where
  pub same : IsPermutation entries ordered
  pub rises : IsNonDecreasingBy place_of ordered

-- entries in rising order are that
abbrev pub RisingIsInOrder : Type 0
RisingIsInOrder = (entries : List Entry) → IsInOrder entries (in_rising_order entries)

-- a walk visits every entry once
abbrev pub WalkVisitsEachOnce : Type 0
WalkVisitsEachOnce =
    (entries : List Entry) (position : ℕ) → IsPermutation entries (walk entries position)

-- entries in rising order have the walks of the entries
abbrev pub RisingKeepsWalks : Type 0
RisingKeepsWalks =
    (entries : List Entry) (position : ℕ)
    → walk (in_rising_order entries) position ≡ walk entries position

-- each node is chosen once, and is a node of the entries
pub record HasEachOnce (chosen : List DestId) (entries : List Entry) : Type 0 where
  pub once : NamesEachOnce chosen
  pub same : (node : DestId) → Contains chosen node ↔ Contains (map node_of entries) node

-- with a factor of at least the number of nodes the choice has each node once, if replicas are not diverse
abbrev pub AllNodesChosen : Type 0
AllNodesChosen =
    (ring : Ring) (position factor : ℕ)
    → length (nodes_of ring.entries) ≤ factor
    → HasEachOnce (choice ring position factor false) ring.entries

-- a choice has no node twice
abbrev pub ChoiceNamesEachOnce : Type 0
ChoiceNamesEachOnce =
    (ring : Ring) (position factor : ℕ) (diverse : Bool)
    → NamesEachOnce (choice ring position factor diverse)

-- if the nodes of the entries are among the first destinations, this number of them, so are those of a choice
abbrev pub ChoiceStaysBelow : Type 0
ChoiceStaysBelow =
    (count : ℕ) (ring : Ring) (position factor : ℕ) (diverse : Bool)
    → are_below count (map node_of ring.entries) ≡ true
    → are_below count (choice ring position factor diverse) ≡ true

-- the choice with a smaller factor is a prefix of the one with a larger
abbrev pub SmallerChoiceIsPrefix : Type 0
SmallerChoiceIsPrefix =
    (ring : Ring) (position smaller larger : ℕ) (diverse : Bool)
    → smaller ≤ larger
    → choice ring position smaller diverse ≡ take smaller (choice ring position larger diverse)

-- without diverse replicas a choice is the first distinct nodes of the walk, whatever servers they are on
abbrev pub PlainChoiceIsFirstNodes : Type 0
PlainChoiceIsFirstNodes =
    (ring : Ring) (position factor : ℕ)
    → choice ring position factor false ≡ take factor (nodes_of (walk ring.entries position))

-- whether two nodes are on one server
abbrev pub same_server : List ℕ → DestId → DestId → Bool
same_server servers a b = server_of servers a == server_of servers b

-- no two of the nodes are on one server
abbrev pub AreOnServersApart : List ℕ → List DestId → Type 0
AreOnServersApart servers nodes = IsDistinct (same_server servers) nodes

-- diverse replicas are on different servers
abbrev pub DiverseChoiceIsApart : Type 0
DiverseChoiceIsApart =
    (ring : Ring) (position factor : ℕ)
    → AreOnServersApart ring.servers (choice ring position factor true)

-- there are as many diverse replicas as the factor if the ring has at least that many nodes on different
-- servers
abbrev pub DiverseChoiceIsFull : Type 0
DiverseChoiceIsFull =
    (ring : Ring) (position factor : ℕ) (nodes : List DestId)
    → AreOnServersApart ring.servers nodes
    → All (λ node. Contains (map node_of ring.entries) node) nodes → factor ≤ length nodes
    → length (choice ring position factor true) ≡ factor

-- a ring without the entries of a node
abbrev pub without_node : DestId → Ring → Ring
without_node node ring = record {
  entries = filter (λ e. not (same_id node (node_of e))) ring.entries;
  servers = ring.servers;
}

-- removing a node from the ring changes only choices that had it, even if replicas are diverse
abbrev pub NodeTakenOffLeavesOthers : Type 0
NodeTakenOffLeavesOthers =
    (ring : Ring) (node : DestId) (position factor : ℕ) (diverse : Bool)
    → ¬ Contains (choice ring position factor diverse) node
    → choice (without_node node ring) position factor diverse
    ≡ choice ring position factor diverse

-- entries of one new node move only choices that now have it, wherever they are
abbrev pub NewNodeTakesItsOwn : Type 0
NewNodeTakesItsOwn =
    (entries added : List Entry) (servers : List ℕ) (node : DestId)
    → All (λ e. same_id node (node_of e) ≡ false) entries
    → All (λ e. same_id node (node_of e) ≡ true) added
    → (position factor : ℕ) (diverse : Bool)
    → ¬ Contains (choice (record { entries = entries ++ added; servers = servers }) position factor diverse) node
    → choice (record { entries = entries ++ added; servers = servers }) position factor diverse
    ≡ choice (record { entries = entries; servers = servers }) position factor diverse

-- one more destination at the end of the list moves only choices that now have it
abbrev pub NewDestinationTakesItsOwn : Type 0
NewDestinationTakesItsOwn =
    (destinations : List Destination) (new : Destination) (position factor : ℕ) (diverse : Bool)
    → ¬ Contains (choice (ring_of (destinations ++ new ∷ [])) position factor diverse)
    (record { 0 = length destinations })
    → choice (ring_of (destinations ++ new ∷ [])) position factor diverse
    ≡ choice (ring_of destinations) position factor diverse

-- destinations have one server exactly if they have one host, byte for byte
abbrev pub ServersAreHosts : Type 0
ServersAreHosts =
    (destinations : List Destination) (i j : ℕ) (d : Destination)
    → i < length destinations → j < length destinations
    → server_of (servers_of destinations) (record { 0 = i }) ≡ server_of (servers_of destinations) (record { 0 = j })
    ↔ (get_or destinations i d).host ≡ (get_or destinations j d).host
