use Rattle.std.proofs.Common.{arith}
use Rattle.name_table.proofs.slot.first_name.Goals as goal

pub loop-word-init : goal.loop-word-init
loop-word-init c = tt

pub loop-word-preserved : goal.loop-word-preserved
loop-word-preserved c = tt

pub loop-word-smaller : goal.loop-word-smaller
loop-word-smaller c = omega (arith, c.in-Some.ensures.cases.2)
