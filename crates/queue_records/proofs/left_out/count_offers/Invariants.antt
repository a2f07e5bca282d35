use Rattle.std.proofs.Common.{◌≡◌, ◌<◌, ℕ, take, slice_index, vec_len}
use Rattle.queue_records.specs.Settling.{offers_in}
use Rattle.queue_records.specs.Takes.{saturating_sum}
use Rattle.queue_records.proofs.left_out.count_offers.Given as goal

-- the first entries are counted
abbrev pub invariant-loop-entry : goal.invariant-loop-entry
invariant-loop-entry l = record {
  len : vec_len l.offers ≡ vec_len l.fn.offers;
  counts : (d : ℕ) → d < vec_len l.fn.offers
      → slice_index l.offers.items d ≡ saturating_sum (slice_index l.fn.offers.items d) (offers_in d (take l.entry-index l.made));
}
