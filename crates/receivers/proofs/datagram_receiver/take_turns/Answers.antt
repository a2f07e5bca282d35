use Rattle.queue_records.specs.Offers.{IsRefusedBy}
use Rattle.receivers.proofs.DatagramLemmas.{datagrams-none, datagrams-then}
use Rattle.receivers.proofs.datagram_receiver.take_turns.Goals as goal

pub loop-init : goal.loop-init
loop-init g c = datagrams-none (IsRefusedBy g.D.Door.may_refuse) (g.T.TimeSource.may_give c.args.times.now) c.args.receiver.now.plan c.args.datagrams.now (g.D.Door.record_of c.args.receiver.now.door) c.requires

pub returns-in-Err-clause-went : goal.returns-in-Err-clause-went
returns-in-Err-clause-went g c = datagrams-then (IsRefusedBy g.D.Door.may_refuse) (g.T.TimeSource.may_give c.args.times.now) _ _ _ _ _ _ _ _ _ c.loop.invariant c.take_turn.ensures.went

pub returns-then-is_set-clause-went : goal.returns-then-is_set-clause-went
returns-then-is_set-clause-went g c = datagrams-then (IsRefusedBy g.D.Door.may_refuse) (g.T.TimeSource.may_give c.args.times.now) _ _ _ _ _ _ _ _ _ c.loop.invariant c.take_turn.ensures.went

pub loop-preserved : goal.loop-preserved
loop-preserved g c = datagrams-then (IsRefusedBy g.D.Door.may_refuse) (g.T.TimeSource.may_give c.args.times.now) _ _ _ _ _ _ _ _ _ c.loop.invariant c.take_turn.ensures.went
