use Rattle.queue_records.specs.Takes.{IsHandedBy}
use Rattle.senders.specs.Steps.{AllUpOwned, SomeProgress}
use Rattle.senders.proofs.send.take_turns.Given as goal

-- the turns so far
abbrev pub invariant-loop : goal.invariant-loop
invariant-loop g l = record {
  went : SomeProgress (IsHandedBy g.S.Supply.record_of g.S.Supply.may_hand) l.fn.writes l.writes (g.S.Supply.record_of l.fn.supply.supply) (g.S.Supply.record_of l.supply.supply);
  owned : AllUpOwned (g.S.Supply.is_owned l.supply.supply) l.writes;
  can_next : (goal.iterator-loop g).can_next l.iterator';
  is_finite : (goal.iterator-loop g).is_finite l.iterator';
}
