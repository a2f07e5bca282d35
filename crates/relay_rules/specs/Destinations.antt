-- Destinations by their index in DESTINATIONS.
use Rattle.std.specs.Prelude.{Bool, List, [], ◌∷◌, ◌++◌, Option, option_map, position, if◌then◌else◌}
use Rattle.std.specs.List.{filter_map, list_any}
use Rattle.conf_text.specs.Destination.{Destination}
use Rattle.conf_text.specs.SameDestination.{same_destination}
use Rattle.relay_base.specs.DestIds.{same_id}
use Rattle.relay_base.specs.declared.dest_id.DestId.{DestId}

-- the index of a destination
abbrev pub id_of : List Destination → Destination → Option DestId
id_of dests d = option_map (λ i. record { 0 = i }) (position (λ e. same_destination e d) dests)

-- the indices of the named destinations, without those that DESTINATIONS does not have
abbrev pub ids_of : List Destination → List Destination → List DestId
ids_of dests named = filter_map (id_of dests) named

-- ---- one after the other

abbrev pub has_id : List DestId → DestId → Bool
has_id ids id = list_any (λ other. same_id other id) ids

-- what is in the list already is not mentioned again
abbrev pub with_more : List DestId → List DestId → List DestId
with_more ids [] = ids
with_more ids (id ∷ more) = with_more (if has_id ids id then ids else ids ++ id ∷ []) more
