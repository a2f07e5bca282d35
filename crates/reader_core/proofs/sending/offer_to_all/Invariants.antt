use Rattle.std.proofs.Common.{◌≡◌, ◌++◌, Some, take}
use Rattle.std.specs.Arc.{arc_value}
use Rattle.reader_core.specs.PlanConfiguration.{to_all}
use Rattle.reader_core.proofs.sending.offer_to_all.Given as goal

-- the offers of the destinations so far wait behind the others
abbrev pub invariant-loop-dest : goal.invariant-loop-dest
invariant-loop-dest l =
    l.waiting.items ≡ l.fn.waiting.items ++ to_all (Some (arc_value l.point)) (take l.dest-index l.others)
