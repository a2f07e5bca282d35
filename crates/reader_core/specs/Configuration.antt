-- Where a datapoint is sent.
use Rattle.std.specs.Prelude.{ℕ, Bool, ◌==◌, if◌then◌else◌, List, [], ◌∷◌, map, filter, flat_map, Option, Some, None}
use Rattle.std.specs.List.{list_any, IsDistinct}
use Rattle.line_text.specs.Datapoint.{Datapoint}
use Rattle.router.specs.Plan.{under_name}

pub record Configuration : Type 0 where
  -- the name after rewriting, or none if the datapoint is dropped
  pub rewrite : List ℕ → Option (List ℕ)
  -- the destinations of a rewritten name, in order
  pub route : List ℕ → List ℕ
  -- how many destinations there are
  pub destinations : ℕ
  -- how many points each queue may hold
  pub size : ℕ
  -- how many points a batch may have
  pub limit : ℕ

abbrev pub has : ℕ → List ℕ → Bool
has d dests = list_any (λ e. e == d) dests

-- each route names a destination once at most
abbrev pub RoutesOnce : Configuration → Type 0
RoutesOnce c = (name : List ℕ) → IsDistinct (λ (a b : ℕ). a == b) (c.route name)

-- a datapoint as it is sent on, if it is
abbrev pub rewritten_point : Configuration → Datapoint → Option Datapoint
rewritten_point c point = under_name point (c.rewrite point.name)

-- a datapoint on its way to a destination
pub record Dispatch : Type 0 where
  pub dest : ℕ
  pub point : Datapoint

abbrev pub dispatches : Configuration → Option Datapoint → List Dispatch
dispatches c None = []
dispatches c (Some point) = map (λ d. record { dest = d; point = point }) (c.route point.name)

-- a datapoint goes once to each destination of its route, in the order of the route
abbrev pub sends : Configuration → Datapoint → List Dispatch
sends c point = dispatches c (rewritten_point c point)

-- of what is sent, the datapoints for the destination
abbrev pub sent_to : ℕ → List Dispatch → List Datapoint
sent_to d all = map (λ s. s.point) (filter (λ s. s.dest == d) all)

abbrev pub point_for : Configuration → ℕ → Option Datapoint → List Datapoint
point_for c d None = []
point_for c d (Some point) = if has d (c.route point.name) then point ∷ [] else []

-- of these datapoints, those whose route has the destination, rewritten
abbrev pub points_for : Configuration → ℕ → List Datapoint → List Datapoint
points_for c d points = flat_map (λ point. point_for c d (rewritten_point c point)) points
