use Rattle.queue_records.specs.Offers.{IsRefusedBy}
use Rattle.receivers.specs.Datagrams.{DatagramsProgress, is_at}
use Rattle.receivers.proofs.datagram_receiver.receive_now.Given as goal

-- the datagrams so far
abbrev pub invariant-loop : goal.invariant-loop
invariant-loop g l = DatagramsProgress (IsRefusedBy g.D.Door.may_refuse) (is_at l.moment) l.fn.receiver.plan l.receiver.plan l.fn.datagrams l.datagrams (g.D.Door.record_of l.fn.receiver.door) (g.D.Door.record_of l.receiver.door)
