use Rattle.std.proofs.Common.{◌≡◌, ◌≤◌, ℕ, Bool, true, length}
use Rattle.queue_records.specs.Offers.{IsRefusedBy}
use Rattle.receivers.specs.Turns.{TurnsProgress}
use Rattle.receivers.proofs.serving.serve_until.Given as goal

-- the tokens so far
abbrev pub invariant-loop-token : goal.invariant-loop-token
invariant-loop-token g l = record {
  went : (may_give : ℕ → Bool) → may_give l.moment ≡ true
      → TurnsProgress (IsRefusedBy g.D.Door.may_refuse) may_give l.fn.receiver.plan l.fn.reads l.reads (g.D.Door.record_of l.fn.receiver.door) (g.D.Door.record_of l.receiver.door);
  dests : l.fn.receiver.plan.destinations ≤ length (g.D.Door.record_of l.receiver.door).totals;
  plan : l.receiver.plan ≡ l.fn.receiver.plan;
}
