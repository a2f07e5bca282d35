use Rattle.std.proofs.Common.{◌≡◌, ◌<◌, ℕ, slice_get, Some}
use Rattle.dest_queue.specs.Counts.{counts_of}
use Rattle.dest_queue.specs.declared.counts.Counts.{Counts}
use Rattle.reader_core.specs.Kinds.{relay_reading}
use Rattle.relay_core.specs.Run.{dest_in}
use Rattle.relay_core.specs.WorldModel.{OfItsRuns}
use Rattle.run_record.proofs.script.has_counts.Given as goal

-- the queues before this one have the counts
abbrev pub invariant-loop-dest : goal.invariant-loop-dest
invariant-loop-dest l =
    OfItsRuns l.world (λ run. (d : ℕ) (c : Counts) → d < l.dest → slice_get l.counts d ≡ Some c
    → c ≡ counts_of (dest_in relay_reading run d).queue)
