-- Indices of destinations in DESTINATIONS, and lists of them.
use Rattle.std.specs.Prelude.{ℕ, Bool, not, ◌==◌, List, [], ◌∷◌, filter, nat_lt}
use Rattle.std.specs.List.{list_all, IsDistinct}
use Rattle.relay_base.specs.declared.dest_id.DestId.{DestId}

-- whether two are the same index
abbrev pub same_id : DestId → DestId → Bool
same_id a b = a.0 == b.0

-- whether each is the index of one of the first destinations, this number of them
abbrev pub are_below : ℕ → List DestId → Bool
are_below count ids = list_all (λ id. nat_lt id.0 count) ids

-- each index at its first mention
abbrev pub first_mentions : List DestId → List DestId
first_mentions [] = []
first_mentions (id ∷ ids) = id ∷ filter (λ other. not (same_id id other)) (first_mentions ids)

-- no index is there twice
abbrev pub NamesEachOnce : List DestId → Type 0
NamesEachOnce ids = IsDistinct same_id ids
