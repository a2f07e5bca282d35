use Rattle.std.proofs.Common.{◌≡◌, ◌<◌, ℕ, take, slice_index, vec_len}
use Rattle.queue_records.specs.Settling.{taken_in}
use Rattle.queue_records.specs.Takes.{saturating_sum}
use Rattle.queue_records.proofs.left_out.count_taken.Given as goal

-- the first entries are counted
abbrev pub invariant-loop-entry : goal.invariant-loop-entry
invariant-loop-entry l = record {
  len : vec_len l.taken ≡ vec_len l.fn.taken;
  counts : (d : ℕ) → d < vec_len l.fn.taken
      → slice_index l.taken.items d ≡ saturating_sum (slice_index l.fn.taken.items d) (taken_in d (take l.entry-index l.takes));
}
