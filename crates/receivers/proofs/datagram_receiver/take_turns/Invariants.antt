use Rattle.queue_records.specs.Offers.{IsRefusedBy}
use Rattle.receivers.specs.Datagrams.{DatagramsProgress}
use Rattle.receivers.proofs.datagram_receiver.take_turns.Given as goal

-- the turns so far
abbrev pub invariant-loop : goal.invariant-loop
invariant-loop g l = DatagramsProgress (IsRefusedBy g.D.Door.may_refuse) (g.T.TimeSource.may_give l.times) l.fn.receiver.plan l.receiver.plan l.fn.datagrams l.datagrams (g.D.Door.record_of l.fn.receiver.door) (g.D.Door.record_of l.receiver.door)
