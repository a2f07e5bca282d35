use Rattle.std.proofs.Common.{◌≡◌, ◌++◌, take}
use Rattle.std.specs.String.{string_bytes}
use Rattle.relay_commands.specs.Route.{destination_words}
use Rattle.relay_commands.proofs.route_command.push_destinations.Given as goal

-- the destinations before this one are added
abbrev pub invariant-loop-id : goal.invariant-loop-id
invariant-loop-id l = string_bytes l.line ≡ string_bytes l.fn.line ++ destination_words l.dests (take l.id-index l.ids)
