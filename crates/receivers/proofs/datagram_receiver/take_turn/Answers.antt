use Rattle.queue_records.specs.Offers.{IsRefusedBy}
use Rattle.receivers.proofs.DatagramLemmas.{datagrams-none}
use Rattle.receivers.proofs.datagram_receiver.take_turn.Goals as goal

pub returns-in_err-wait-clause-went : goal.returns-in_err-wait-clause-went
returns-in_err-wait-clause-went g c = datagrams-none (IsRefusedBy g.D.Door.may_refuse) (g.T.TimeSource.may_give c.args.times.now) c.args.receiver.now.plan c.args.datagrams.now (g.D.Door.record_of c.args.receiver.now.door) c.requires
