-- What the configuration of a plan sends.
use Rattle.std.proofs.Common.{◌≡◌, ℕ, ◌==◌, false, List, [], ◌∷◌, map, Option, Some, None, refl, ap}
use Rattle.std.specs.List.{IsDistinct, AllByRecursion}
use Rattle.line_text.specs.Datapoint.{Datapoint}
use Rattle.relay_base.specs.declared.dest_id.DestId.{DestId}
use Rattle.relay_base.specs.DestIds.{same_id}
use Rattle.router.specs.Plan.{Plan, name_after, under_name, route_of, sent_along}
use Rattle.router.specs.Laws.{RouteNamesEachOnce}
use Rattle.reader_core.specs.Configuration.{Dispatch, dispatches}
use Rattle.reader_core.specs.PlanConfiguration.{places_of, configuration_of, to_all, PlanSends, PlanRoutesOnce}

to_places : (point : Datapoint) (ids : List DestId) → map (λ d. let s : Dispatch = record { dest = d; point = point } in s) (places_of ids) ≡ to_all (Some point) ids
to_places point [] = refl
to_places point (id ∷ ids) = ap (λ (l : List Dispatch). record { dest = id.0; point = point } ∷ l) (to_places point ids)

sends_routed : (plan : Plan) (size limit : ℕ) (point : Option Datapoint)
    → dispatches (configuration_of plan size limit) point ≡ to_all (sent_along plan.routing point).point (sent_along plan.routing point).dests
sends_routed plan size limit None = refl
sends_routed plan size limit (Some point) = to_places point (route_of plan.routing point.name)

pub plan_sends : PlanSends
plan_sends plan size limit point = sends_routed plan size limit (under_name point (name_after plan.rewrite point.name))

apart_places : (id : DestId) (ids : List DestId) → AllByRecursion (λ other. same_id id other ≡ false) ids
    → AllByRecursion (λ (place : ℕ). id.0 == place ≡ false) (places_of ids)
apart_places id [] apart = tt
apart_places id (other ∷ ids) apart = (apart.0, apart_places id ids apart.1)

distinct_places : (ids : List DestId) → IsDistinct same_id ids → IsDistinct (λ (a b : ℕ). a == b) (places_of ids)
unfolding IsDistinct
distinct_places [] once = tt
distinct_places (id ∷ ids) once = (apart_places id ids once.0, distinct_places ids once.1)

pub plan_routes_once : RouteNamesEachOnce → PlanRoutesOnce
plan_routes_once once plan size limit name = distinct_places (route_of plan.routing name) (once plan.routing name)
