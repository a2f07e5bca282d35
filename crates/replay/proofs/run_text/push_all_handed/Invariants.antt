use Rattle.std.proofs.Common.{◌≡◌, ◌++◌}
use Rattle.relay_core.specs.WorldModel.{OfItsRuns}
use Rattle.replay.specs.RunText.{of_each, handed_text}
use Rattle.replay.proofs.run_text.push_all_handed.Given as goal

-- the lines of the destinations so far
abbrev pub invariant-loop-dest : goal.invariant-loop-dest
invariant-loop-dest l =
    OfItsRuns l.world (λ run. l.text.items ≡ l.fn.text.items ++ of_each (handed_text l.fn.form run) l.dest)
