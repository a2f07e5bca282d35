use Rattle.std.proofs.Common.{rules, subst}
use Rattle.std.specs.Prelude.{Contains}
use Rattle.name_table.proofs.Slots.{contains_at}
use Rattle.name_table.proofs.table.NameTable.find_in_slot.Goals as goal

pub returns-then-is_same : goal.returns-then-is_same
returns-then-is_same g c =
    let read = c.in_ok-get.ensures.lookup in
    let same = c.is_same.ensures c.if-is_same.true in
    let is_name = c.text.ensures.name in
    record {
      held = subst (λ entries. Contains entries c.in_ok-entry.entry.now) c.self.view_is
          (contains_at c.self.inside.slots.items c.deref.result.now c.args.slot c.in_ok-get.field-0.now c.in_ok-entry.entry.now c.deref.ensures.value read.3.0 read.1 c.in_ok-entry.ensures.value);
      name = search rules;
      is_name = search rules;
    }
