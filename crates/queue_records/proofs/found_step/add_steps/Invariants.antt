use Rattle.std.proofs.Common.{◌≡◌, ◌<◌, ◌*◌, ◌++◌, ℕ, [], map, take, slice_index_or}
use Rattle.std.specs.Vec.{vec_len}
use Rattle.dest_queue.specs.Queue.{most_steps}
use Rattle.dest_queue.specs.Step.{recorded_of}
use Rattle.queue_records.specs.FoundStep.{found_by_key}
use Rattle.dest_queue.specs.Numbered.{numbered_from}
use Rattle.queue_records.specs.Numbered.{made_by}
use Rattle.queue_records.proofs.found_step.add_steps.Given as goal

-- the first steps are in the lists of their makers
abbrev pub invariant-loop-place : goal.invariant-loop-place
invariant-loop-place l = record {
  count : vec_len l.lists ≡ vec_len l.initial.lists;
  added : (key : ℕ) → key < vec_len l.initial.lists
      → slice_index_or (found_by_key l.lists.items) key []
      ≡ slice_index_or (found_by_key l.initial.lists.items) key [] ++ made_by l.readers key (numbered_from l.dest (most_steps * l.dest) (map recorded_of (take l.place l.steps)));
}
