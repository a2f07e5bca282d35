use Rattle.std.proofs.Common.{◌≡◌, ◌<◌, ◌*◌, ◌+◌, ℕ, [], length, map, take, slice_index_or}
use Rattle.std.specs.Vec.{vec_len}
use Rattle.dest_queue.specs.Step.{recorded_of}
use Rattle.queue_records.specs.FoundStep.{found_by_key}
use Rattle.dest_queue.specs.Numbered.{all_numbered}
use Rattle.queue_records.specs.Numbered.{made_by}
use Rattle.queue_records.proofs.found_step.found_steps.Given as goal

-- the steps of the first histories are in the lists of their makers
abbrev pub invariant-loop-dest : goal.invariant-loop-dest
invariant-loop-dest l = record {
  count : vec_len l.found ≡ (l.readers + 1) * length l.histories;
  found : (key : ℕ) → key < vec_len l.found
      → slice_index_or (found_by_key l.found.items) key []
      ≡ made_by l.readers key (all_numbered 0 (map (λ history. map recorded_of history.items) (take l.dest l.histories)));
}
