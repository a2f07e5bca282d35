-- What a configuration does with a datapoint: rewriting, and then routing.
use Rattle.std.specs.Prelude.{◌≡◌, ℕ, Bool, true, List, [], map, length, Option, Some, None, Result, Ok, Err, if◌then◌else◌}
use Rattle.line_text.specs.Datapoint.{Datapoint}
use Rattle.line_text.specs.Name.{is_name}
use Rattle.relay_base.specs.DestIds.{are_below}
use Rattle.relay_base.specs.declared.dest_id.DestId.{DestId}
use Rattle.conf_text.specs.declared.method.RelayMethod.{RelayMethod}
use Rattle.conf_text.specs.declared.method.RelayMethod.TheVariants.{Rules, ConsistentHashing}
use Rattle.conf_text.specs.SettingsTable.{SettingValues}
use Rattle.rewrite_rules.specs.Rule.{RewriteRule, text_after_all}
use Rattle.relay_rules.specs.Rules.{RuleList, names_below}
use Rattle.relay_rules.specs.Route.{rule_route}
use Rattle.hash_ring.specs.Entry.{Ring, node_of}
use Rattle.hash_ring.specs.Key.{position_of}
use Rattle.hash_ring.specs.RingOf.{ring_of}
use Rattle.hash_ring.specs.Walk.{choice}
use Rattle.router.specs.declared.fault.PlanFault.{PlanFault}
use Rattle.router.specs.declared.fault.PlanFault.TheVariants.{NoRules}

-- how names find their destinations: by relay rules, or by a ring, which gives each as many as its factor, on
-- different servers if replicas are diverse
pub data Routing : Type 0 where
  ByRules : RuleList → Routing
  ByRing : Ring → ℕ → Bool → Routing

-- rewrite rules, a routing, and how many destinations there are
pub record Plan : Type 0 where
  pub rewrite : List RewriteRule
  pub routing : Routing
  pub destinations : ℕ

-- ---- what is sent

-- the name after rewriting, or none if that is not a metric name
abbrev pub name_after : List RewriteRule → List ℕ → Option (List ℕ)
name_after rules name =
    if is_name (text_after_all rules name) then Some (text_after_all rules name) else None

-- a datapoint under its new name, if it has one
abbrev pub under_name : Datapoint → Option (List ℕ) → Option Datapoint
under_name point None = None
under_name point (Some name) = Some (record point { name = name })

-- a datapoint after rewriting, or none if it is dropped
abbrev pub point_after : List RewriteRule → Datapoint → Option Datapoint
point_after rules point = under_name point (name_after rules point.name)

-- the destinations of a rewritten name, in order
abbrev pub route_of : Routing → List ℕ → List DestId
route_of (ByRules list) name = rule_route list name
route_of (ByRing ring factor diverse) name = choice ring (position_of name) factor diverse

-- a datapoint as it is sent on, and where
pub record Sent : Type 0 where
  pub point : Option Datapoint
  pub dests : List DestId

-- to the destinations of its name
abbrev pub sent_along : Routing → Option Datapoint → Sent
sent_along routing None = record { point = None; dests = [] }
sent_along routing (Some point) = record { point = Some point; dests = route_of routing point.name }

-- what a plan sends for a datapoint: it is rewritten, and then routed
abbrev pub sent_by : Plan → Datapoint → Sent
sent_by plan point = sent_along plan.routing (point_after plan.rewrite point)

-- that was sent, and to destinations that there are
abbrev pub IsSentBy : Plan → Datapoint → Option Datapoint → List DestId → Type 0
IsSentBy plan point sent dests =
    (record { point = sent; dests = dests } ≡ sent_by plan point)
    × (are_below plan.destinations dests ≡ true)

-- ---- the plan of a configuration

-- by relay rules, which must be there; or by the ring of the destinations
abbrev pub routing_by : RelayMethod → SettingValues → Option RuleList → Result Routing PlanFault
routing_by Rules settings None = Err NoRules
routing_by Rules settings (Some list) = Ok (ByRules list)
routing_by ConsistentHashing settings rules =
    let routing = settings.routing in
    Ok (ByRing (ring_of routing.destinations) routing.replication_factor routing.diverse_replicas)

abbrev pub plan_with : List RewriteRule → ℕ → Result Routing PlanFault → Result Plan PlanFault
plan_with rewrite destinations (Err fault) = Err fault
plan_with rewrite destinations (Ok routing) =
    Ok (record { rewrite = rewrite; routing = routing; destinations = destinations })

-- the plan of settings, rewrite rules and relay rules, or why there is none
unfoldable pub plan_of : SettingValues → List RewriteRule → Option RuleList → Result Plan PlanFault
plan_of settings rewrite rules =
    plan_with rewrite (length settings.routing.destinations)
    (routing_by settings.routing.relay_method settings rules)

-- ---- routes stay among the destinations

-- relay rules that were read with this number of destinations name no others
abbrev pub are_read_for : ℕ → Option RuleList → Bool
are_read_for count None = true
are_read_for count (Some list) = names_below count list

abbrev pub stays_below : ℕ → Routing → Bool
stays_below count (ByRules list) = names_below count list
stays_below count (ByRing ring factor diverse) = are_below count (map node_of ring.entries)
