use Rattle.name_table.proofs.Slots.{none_free, one_more_free, entries_free}
use Rattle.name_table.proofs.table.free_slots.Goals as goal

pub loop-init : goal.loop-init
loop-init g c = none_free c.in_ok-slots.slots.items c.in_ok-slots.ensures.items

pub loop-preserved : goal.loop-preserved
loop-preserved g c = one_more_free c.loop.slots.items c.push.new.self.items c.in_ok-push.ensures.items c.loop.invariant

pub returns : goal.returns
returns g c = entries_free c.loop.slots.items c.loop.invariant
