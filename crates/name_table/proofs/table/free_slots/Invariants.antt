use Rattle.std.proofs.Common.{◌≡◌, ℕ, List, None, Option}
use Rattle.std.specs.List.{All}
use Rattle.name_table.proofs.table.free_slots.Given as goal

abbrev pub invariant-loop : goal.invariant-loop
invariant-loop g l = All (λ (slot : Option (List ℕ × g.row.V.Denot)). slot ≡ None) l.slots.items
