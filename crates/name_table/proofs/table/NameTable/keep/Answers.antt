use Rattle.std.proofs.Common.{ℕ, List, subst, sym, ◌∙◌}
use Rattle.name_table.specs.NameTable.{Keeps}
use Rattle.name_table.proofs.Slots.{keeps_same}
use Rattle.name_table.proofs.table.NameTable.keep.Goals as goal

pub returns-then-text-gt-LONGEST_KEPT : goal.returns-then-text-gt-LONGEST_KEPT
returns-then-text-gt-LONGEST_KEPT g c = keeps_same c.args.self.now c.args.entry

pub returns-else-slot-len : goal.returns-else-slot-len
returns-else-slot-len g c =
    subst (λ (after : List (List ℕ × g.row.V.Denot)). Keeps c.args.self.now c.args.entry after) (sym (c.slot_for-slot.ensures ∙ c.make_room.ensures)) (keeps_same c.args.self.now c.args.entry)
