-- What a plan makes of a metric name, as the code holds it.
use Rattle.std.specs.Prelude.{◌≡◌, ◌-◌, ◌^◌, ℕ, Bool, true, false, min, List, [], ◌∷◌, Option, Some, None}
use Rattle.std.specs.Arc.{arc_value}
use Rattle.relay_base.specs.declared.dest_id.DestId.{DestId}
use Rattle.rewrite_rules.specs.Name.{is_emptied}
use Rattle.rewrite_rules.specs.Rule.{RewriteRule, text_after_all}
use Rattle.router.specs.Plan.{Routing, name_after, route_of}
use Rattle.router.specs.declared.route.Route.{Route}
use Rattle.router.specs.declared.route.Route.TheVariants as route
use Rattle.router.specs.declared.route.SentName.{SentName}
use Rattle.router.specs.declared.route.SentName.TheVariants as sent
use Rattle.router.specs.declared.route.RouteDests.{RouteDests}
use Rattle.router.specs.declared.route.RouteDests.TheVariants as held

-- the name sent for a received one, or none if it is dropped
abbrev pub sent_name : List ℕ → SentName → Option (List ℕ)
sent_name received sent.AsReceived = Some received
sent_name received (sent.Renamed name) = Some (arc_value name)
sent_name received sent.Emptied = None
sent_name received sent.Invalid = None

-- rewriting left nothing of the name
abbrev pub is_emptied_name : SentName → Bool
is_emptied_name sent.Emptied = true
is_emptied_name _ = false

-- destinations as one list
abbrev pub dests_of : RouteDests → List DestId
dests_of (held.One dest) = dest ∷ []
dests_of (held.Others dests) = dests.items

-- the name that a route sends for a received one, or none if it is dropped
abbrev pub sent_on : List ℕ → Route → Option (List ℕ)
sent_on received (route.ToOne dest) = Some received
sent_on received (route.Other other) = sent_name received (arc_value other).sent

-- a route drops its datapoints on purpose: rewriting left nothing of the name
abbrev pub is_emptied_on : Route → Bool
is_emptied_on (route.ToOne dest) = false
is_emptied_on (route.Other other) = is_emptied_name (arc_value other).sent

-- a count stays at the greatest number once it reaches it
abbrev pub counted : ℕ → ℕ
counted n = min n (2 ^ 64 - 1)

-- the destinations of a route
abbrev pub dests_on : Route → List DestId
dests_on (route.ToOne dest) = dest ∷ []
dests_on (route.Other other) = dests_of (arc_value other).dests

-- the destinations of a name after rewriting; none if it is dropped
abbrev pub dests_after : Routing → Option (List ℕ) → List DestId
dests_after routing None = []
dests_after routing (Some name) = route_of routing name

-- the law of each entry of both tables: its route is what rewriting and routing make of its name
pub record IsRouteOf (rewrite : List RewriteRule) (routing : Routing) (entry : List ℕ × Route) : Type 0 where
  pub sent : sent_on entry.0 entry.1 ≡ name_after rewrite entry.0
  pub dests : dests_on entry.1 ≡ dests_after routing (name_after rewrite entry.0)
  pub emptied : is_emptied_on entry.1 ≡ is_emptied (text_after_all rewrite entry.0)

-- two routes that say the same
pub record IsSameRoute (one other : Route) : Type 0 where
  pub sent : (received : List ℕ) → sent_on received one ≡ sent_on received other
  pub dests : dests_on one ≡ dests_on other
  pub emptied : is_emptied_on one ≡ is_emptied_on other
