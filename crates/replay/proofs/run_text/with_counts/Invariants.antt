use Rattle.std.proofs.Common.{◌≡◌, ◌++◌, drop}
use Rattle.dest_queue.specs.Counts.{counts_of}
use Rattle.reader_core.specs.Kinds.{relay_reading}
use Rattle.relay_core.specs.Run.{dest_in}
use Rattle.relay_core.specs.WorldModel.{OfItsRuns}
use Rattle.replay.specs.RunText.{with_counts}
use Rattle.replay.proofs.run_text.with_counts.Given as goal

-- the pairs so far and those of what is left are those of all
abbrev pub invariant-loop-place : goal.invariant-loop-place
invariant-loop-place l =
    OfItsRuns l.world (λ run. l.pairs.items ++ with_counts (λ d. counts_of (dest_in relay_reading run d).queue) l.place (drop l.place l.dests)
    ≡ with_counts (λ d. counts_of (dest_in relay_reading run d).queue) 0 l.dests)
