use Rattle.std.proofs.Common.{◌≡◌, drop}
use Rattle.relay_rules.specs.Destinations.{with_more}
use Rattle.relay_rules.proofs.destinations.mention.Given as goal

abbrev pub invariant-loop-id : goal.invariant-loop-id
invariant-loop-id l = with_more l.route.items (drop l.id-index l.ids) ≡ with_more l.initial.route.items l.ids
