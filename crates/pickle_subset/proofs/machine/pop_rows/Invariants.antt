use Rattle.std.proofs.Common.{vec_len}
use Rattle.pickle_subset.specs.Views.{rows, stack}
use Rattle.pickle_subset.proofs.PopLemmas.{Takes}
use Rattle.pickle_subset.proofs.machine.pop_rows.Given as goal

abbrev pub invariant-loop-top : goal.invariant-loop-top
invariant-loop-top l = Takes (stack l.fn.items.items) (stack l.items.items) (rows l.fn.found.items) (rows l.found.items)

abbrev pub decreases-loop-top : goal.decreases-loop-top
decreases-loop-top l = vec_len l.items
