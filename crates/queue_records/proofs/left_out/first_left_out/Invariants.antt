use Rattle.std.proofs.Common.{◌≡◌, length, take, vec_len}
use Rattle.queue_records.specs.Settling.{offers_recorded, taken_recorded}
use Rattle.queue_records.proofs.LeftOut.{AreCapped}
use Rattle.queue_records.proofs.left_out.first_left_out.Given as goal

-- the offers of the first doors are counted
abbrev pub invariant-loop-door : goal.invariant-loop-door
invariant-loop-door l = record {
  len : vec_len l.offers ≡ length l.counts;
  counted : AreCapped (length l.counts) l.offers.items (λ d. offers_recorded d (take l.door-index l.doors));
}

-- the datapoints of the first outlets are counted
abbrev pub invariant-loop-outlet : goal.invariant-loop-outlet
invariant-loop-outlet l = record {
  len : vec_len l.taken ≡ length l.counts;
  counted : AreCapped (length l.counts) l.taken.items (λ d. taken_recorded d (take l.outlet-index l.outlets));
}
