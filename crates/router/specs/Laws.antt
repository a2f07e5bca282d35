-- Laws above the definitions.
use Rattle.std.specs.Prelude.{◌≡◌, ℕ, true, List}
use Rattle.relay_base.specs.DestIds.{are_below, NamesEachOnce}
use Rattle.router.specs.Plan.{Routing, route_of, stays_below}

-- a route names no destination twice
abbrev pub RouteNamesEachOnce : Type 0
RouteNamesEachOnce = (routing : Routing) (name : List ℕ) → NamesEachOnce (route_of routing name)

-- a route names destinations below the same number as the routing does
abbrev pub RouteStaysBelow : Type 0
RouteStaysBelow =
    (count : ℕ) (routing : Routing) (name : List ℕ) → stays_below count routing ≡ true
    → are_below count (route_of routing name) ≡ true
