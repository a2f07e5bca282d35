use Rattle.std.proofs.Common.{◌≡◌, map, take, None}
use Rattle.std.specs.Vec.{vec_len, vec_capacity}
use Rattle.queue_records.specs.FoundStep.{found_by_key}
use Rattle.queue_records.specs.Met.{Meets}
use Rattle.queue_records.proofs.order_lists.record_numbers.Given as goal

-- the first records were met
abbrev pub invariant-loop-record : goal.invariant-loop-record
invariant-loop-record g l = record {
  none : l.matching.least ≡ None → l.initial.matching.least ≡ None;
  met : Meets l.readers (found_by_key l.found) (map (λ r. map g.E.Entry.step_of (g.R.Record.entries_of r)) (take l.record-index l.records)) (map (λ list. list.items) l.numbers.items) l.matching.least l.initial.matching.reached.items l.matching.reached.items;
  keys : vec_len l.matching.reached ≡ vec_len l.initial.matching.reached;
  numbers : vec_len l.numbers ≡ l.record-index;
  room : vec_capacity l.numbers ≡ vec_capacity l.initial.numbers;
}
