-- The configuration of a plan: the laws are about what the program's rewriting and routing do.
use Rattle.std.specs.Prelude.{◌≡◌, ℕ, List, [], map, Option, Some, None}
use Rattle.line_text.specs.Datapoint.{Datapoint}
use Rattle.relay_base.specs.declared.dest_id.DestId.{DestId}
use Rattle.router.specs.Plan.{Plan, name_after, route_of, sent_by}
use Rattle.reader_core.specs.Configuration.{Configuration, RoutesOnce, Dispatch, sends}

-- destinations as their places
abbrev pub places_of : List DestId → List ℕ
places_of ids = map (λ id. id.0) ids

-- a plan, with queues of this size and batches of this limit
abbrev pub configuration_of : Plan → ℕ → ℕ → Configuration
configuration_of plan size limit =
    record {
      rewrite = λ name. name_after plan.rewrite name;
      route = λ name. places_of (route_of plan.routing name);
      destinations = plan.destinations;
      size = size;
      limit = limit;
    }

-- a datapoint on its way to each of these destinations
abbrev pub to_all : Option Datapoint → List DestId → List Dispatch
to_all None ids = []
to_all (Some point) ids = map (λ id. record { dest = id.0; point = point }) ids

-- for a datapoint, the configuration of a plan sends what the plan sends
abbrev pub PlanSends : Type 0
PlanSends =
    (plan : Plan) (size limit : ℕ) (point : Datapoint)
    → sends (configuration_of plan size limit) point
    ≡ to_all (sent_by plan point).point (sent_by plan point).dests

-- and each of its routes names a destination once at most
abbrev pub PlanRoutesOnce : Type 0
PlanRoutesOnce = (plan : Plan) (size limit : ℕ) → RoutesOnce (configuration_of plan size limit)
