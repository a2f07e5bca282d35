use Rattle.std.proofs.Common.{◌≡◌}
use Rattle.std.specs.Vec.{vec_len, vec_capacity}
use Rattle.queue_records.proofs.list_door.empty_queues.Given as goal

-- a queue for each destination so far
abbrev pub invariant-loop : goal.invariant-loop
invariant-loop l = record {
  queues : vec_len l.queues ≡ l.counter;
  room : vec_capacity l.queues ≡ vec_capacity l.initial.queues;
}
