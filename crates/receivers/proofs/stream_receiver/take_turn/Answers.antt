use Rattle.queue_records.specs.Offers.{IsRefusedBy}
use Rattle.receivers.proofs.MomentLemmas.{no-turns}
use Rattle.receivers.proofs.stream_receiver.take_turn.Goals as goal

pub returns-in_err-ready-clause-went : goal.returns-in_err-ready-clause-went
returns-in_err-ready-clause-went g c = no-turns (IsRefusedBy g.D.Door.may_refuse) (g.T.TimeSource.may_give c.args.times.now) c.args.receiver.now.plan c.args.reads.now (g.D.Door.record_of c.args.receiver.now.door)
