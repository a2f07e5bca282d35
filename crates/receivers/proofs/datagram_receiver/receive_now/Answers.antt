use Rattle.queue_records.specs.Offers.{IsRefusedBy}
use Rattle.receivers.specs.Datagrams.{is_at}
use Rattle.receivers.proofs.DatagramLemmas.{datagrams-none, datagrams-then, datagrams-reported}
use Rattle.receivers.proofs.datagram_receiver.receive_now.Goals as goal

pub loop-init : goal.loop-init
loop-init g c = datagrams-none (IsRefusedBy g.D.Door.may_refuse) (is_at c.moment-moment.result) c.args.receiver.now.plan c.args.datagrams.now (g.D.Door.record_of c.args.receiver.now.door) c.requires

pub loop-preserved : goal.loop-preserved
loop-preserved g c = datagrams-then (IsRefusedBy g.D.Door.may_refuse) (is_at c.moment-moment.result) _ _ _ _ _ _ _ _ _ c.loop.invariant c.receive_one.ensures

pub returns-in_default : goal.returns-in_default
returns-in_default g c =
    datagrams-reported (IsRefusedBy g.D.Door.may_refuse) (g.T.TimeSource.may_give c.args.times.now) c.moment-moment.result _ _ _ _ _ _ c.moment-moment.ensures
    (datagrams-then (IsRefusedBy g.D.Door.may_refuse) (is_at c.moment-moment.result) _ _ _ _ _ _ _ _ _ c.loop.invariant c.receive_one.ensures)

pub returns : goal.returns
returns g c = datagrams-reported (IsRefusedBy g.D.Door.may_refuse) (g.T.TimeSource.may_give c.args.times.now) c.moment-moment.result _ _ _ _ _ _ c.moment-moment.ensures c.loop.invariant
