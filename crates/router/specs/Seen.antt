-- A plan's parts as the code holds them.
use Rattle.router.specs.declared.routing.Routing.{Routing as Held}
use Rattle.router.specs.declared.routing.Routing.TheVariants as held
use Rattle.router.specs.Plan.{Routing, ByRules, ByRing}

abbrev pub routing_seen : Held → Routing
routing_seen (held.Rules rules) = ByRules rules
routing_seen (held.Ring ring factor diverse) = ByRing ring factor diverse
