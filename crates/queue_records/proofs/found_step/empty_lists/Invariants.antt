use Rattle.std.proofs.Common.{◌≡◌, ℕ, [], slice_index_or}
use Rattle.std.specs.Vec.{vec_len, vec_capacity}
use Rattle.queue_records.specs.FoundStep.{found_by_key}
use Rattle.queue_records.proofs.found_step.empty_lists.Given as goal

-- the lists so far, all empty
abbrev pub invariant-loop : goal.invariant-loop
invariant-loop l = record {
  lists : vec_len l.lists ≡ l.counter;
  room : vec_capacity l.lists ≡ vec_capacity l.initial.lists;
  empty : (key : ℕ) → slice_index_or (found_by_key l.lists.items) key [] ≡ [];
}
