use Rattle.std.proofs.Common.{◌≡◌, ◌<◌, ℕ, length, get_or}
use Rattle.run_record.specs.QueueSteps.{history_at}
use Rattle.run_record.proofs.history.are_ends.Given as goal

-- the places before this one are the ends
abbrev pub invariant-loop-dest : goal.invariant-loop-dest
invariant-loop-dest l =
    (d : ℕ) → d < l.dest → get_or l.places d 0 ≡ length (history_at l.histories d)
