use Rattle.std.proofs.Common.{◌≡◌, ◌<◌, ◌≤◌, ℕ, [], length, slice_index, slice_index_or, None}
use Rattle.queue_records.specs.FoundStep.{found_by_key}
use Rattle.queue_records.proofs.matching.Matching.difference.Given as goal

-- if there is no difference, all of the first makers' steps were met
abbrev pub invariant-loop-key : goal.invariant-loop-key
invariant-loop-key l = record {
  none : l.self.least ≡ None → l.initial.self.least ≡ None;
  reached : l.self.reached ≡ l.initial.self.reached;
  all : l.self.least ≡ None → (key : ℕ) → key < l.key
      → length (slice_index_or (found_by_key l.found) key []) ≤ slice_index l.self.reached.items key;
}
