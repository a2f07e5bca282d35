-- The destinations that stay.
use Rattle.std.specs.Prelude.{ℕ, Bool, true, false, List, Option, None, Some, map, filter}
use Rattle.std.specs.List.{position}
use Rattle.conf_text.specs.Destination.{Destination}
use Rattle.conf_text.specs.SameDestination.{same_destination}

-- the place of a destination in a list, if it is there
abbrev pub place_of : Destination → List Destination → Option ℕ
place_of dest dests = position (λ other. same_destination other dest) dests

-- where each destination of a new list was in the old one
abbrev pub kept_places : (old new : List Destination) → List (Option ℕ)
kept_places old new = map (λ dest. place_of dest old) new

abbrev pub is_missing : Option ℕ → Bool
is_missing None = true
is_missing (Some place) = false

-- the destinations of a list that another one does not have, in order
abbrev pub lacked_by : List Destination → List Destination → List Destination
lacked_by other dests = filter (λ dest. is_missing (place_of dest other)) dests
