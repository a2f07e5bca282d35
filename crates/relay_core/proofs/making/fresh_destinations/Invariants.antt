use Rattle.std.proofs.Common.{◌≡◌, replicate}
use Rattle.relay_core.specs.Destination.{fresh_destination}
use Rattle.relay_core.specs.WorldModel.{with_sizes}
use Rattle.relay_core.proofs.making.fresh_destinations.Given as goal

-- this number of destinations
abbrev pub invariant-loop : goal.invariant-loop
invariant-loop l = l.destinations.items ≡ replicate l.counter (with_sizes l.size l.limit (fresh_destination l.readers))
