use Rattle.std.proofs.Common.{◌≡◌, ◌≤◌, length}
use Rattle.queue_records.specs.Offers.{IsRefusedBy}
use Rattle.receivers.specs.Turns.{TurnsProgress}
use Rattle.receivers.proofs.stream_receiver.take_turns.Given as goal

-- the turns so far
abbrev pub invariant-loop : goal.invariant-loop
invariant-loop g l = record {
  went : TurnsProgress (IsRefusedBy g.D.Door.may_refuse) (g.T.TimeSource.may_give l.times) l.fn.receiver.plan l.fn.reads l.reads (g.D.Door.record_of l.fn.receiver.door) (g.D.Door.record_of l.receiver.door);
  dests : l.fn.receiver.plan.destinations ≤ length (g.D.Door.record_of l.receiver.door).totals;
  plan : l.receiver.plan ≡ l.fn.receiver.plan;
}
