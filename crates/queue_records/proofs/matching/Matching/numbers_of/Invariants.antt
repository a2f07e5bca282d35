use Rattle.std.proofs.Common.{◌≡◌, ◌++◌, List, map, take, None}
use Rattle.std.specs.Vec.{vec_len, vec_capacity}
use Rattle.queue_records.specs.FoundStep.{found_by_key}
use Rattle.queue_records.specs.Met.{AreMet}
use Rattle.dest_queue.specs.Numbered.{NumberedStep}
use Rattle.queue_records.specs.Numbered.{with_numbers}
use Rattle.queue_records.proofs.matching.Matching.numbers_of.Given as goal

-- if there is no difference so far, the first entries were met
abbrev pub invariant-loop-entry : goal.invariant-loop-entry
invariant-loop-entry g l = record {
  none : l.self.least ≡ None → l.initial.self.least ≡ None;
  met : l.self.least ≡ None → (seen : List NumberedStep) → AreMet l.readers (found_by_key l.found) seen l.initial.self.reached.items
      → AreMet l.readers (found_by_key l.found) (seen ++ with_numbers (map g.E.Entry.step_of (take l.entry-index l.entries)) l.numbers.items) l.self.reached.items;
  numbers : vec_len l.numbers ≡ l.entry-index;
  room : vec_capacity l.numbers ≡ vec_capacity l.initial.numbers;
  keys : vec_len l.self.reached ≡ vec_len l.initial.self.reached;
}
