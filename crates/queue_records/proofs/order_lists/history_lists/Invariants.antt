use Rattle.std.proofs.Common.{◌≡◌, map, take}
use Rattle.std.specs.Vec.{vec_len, vec_capacity}
use Rattle.dest_queue.specs.Step.{recorded_of}
use Rattle.dest_queue.specs.Numbered.{history_numbers}
use Rattle.queue_records.proofs.order_lists.history_lists.Given as goal

-- the numbers of the first histories
abbrev pub invariant-loop-dest : goal.invariant-loop-dest
invariant-loop-dest l = record {
  numbers : map (λ list. list.items) l.lists.items ≡ history_numbers 0 (map (λ history. map recorded_of history.items) (take l.dest l.histories));
  lists : vec_len l.lists ≡ l.dest;
  room : vec_capacity l.lists ≡ vec_capacity l.initial.lists;
}
