use Rattle.std.proofs.Common.{option_map}
use Rattle.relay_rules.proofs.Readings.{IsReadTo}
use Rattle.relay_rules.proofs.rules.RelayRules.read.Given as goal

abbrev pub invariant-loop-number : goal.invariant-loop-number
invariant-loop-number l = IsReadTo l.dests l.section-items l.number l.rules.items (option_map (λ ids. ids.items) l.default)
