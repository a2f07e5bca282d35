use Rattle.std.proofs.Common.{◌≡◌, ◌*◌, map}
use Rattle.queue_records.specs.Offers.{readers_each}
use Rattle.std.specs.Vec.{vec_len, vec_capacity}
use Rattle.dest_queue.specs.Step.{recorded_of}
use Rattle.queue_records.specs.Settling.{AreBegun}
use Rattle.locked_queues.proofs.copies.copy_all.Given as goal

-- the first queues were copied
abbrev pub invariant-loop-dest : goal.invariant-loop-dest
invariant-loop-dest g l = record {
  begun : AreBegun g.B.Set.size (readers_each * g.B.Set.receivers) l.counts.items (map (λ history. map recorded_of history.items) l.histories.items);
  counts : vec_len l.counts ≡ l.dest;
  histories : vec_len l.histories ≡ l.dest;
  room : vec_capacity l.counts ≡ vec_capacity l.initial.counts;
  histories_room : vec_capacity l.histories ≡ vec_capacity l.initial.histories;
  locks : vec_len l.locks ≡ vec_len l.initial.locks;
}
