use Rattle.std.proofs.Common.{sym, subst}
use Rattle.queue_records.specs.Offers.{IsRefusedBy}
use Rattle.mio_loops.specs.InputLog.{LogState}
use Rattle.receivers.specs.Record.{RanOrRefused}
use Rattle.receivers.proofs.RanLemmas.{device-alone, loop-ran}
use Rattle.receivers.proofs.stream_receiver.receive_streams.Goals as goal

pub returns-clause-ran : goal.returns-clause-ran
returns-clause-ran g c =
    let made = c.in-Ok.ensures in
    let went = c.take_turns-fault.ensures.went in
    let may_give = g.T.TimeSource.may_give c.args.times.now in
    let before = g.D.Door.record_of c.args.receiver.door in
    let after = g.D.Door.record_of c.take_turns-fault.new.receiver.door in
    subst (λ (l : LogState). RanOrRefused (IsRefusedBy g.D.Door.may_refuse) c.args.kind c.args.receiver.plan c.args.receiver.number may_give l before after) (sym c.end_loop.ensures)
    (loop-ran (IsRefusedBy g.D.Door.may_refuse) c.args.kind c.args.receiver.plan c.args.receiver.number may_give went.0 went.1 c.in-Ok.reads c.take_turns-fault.new.reads before after
    made.first made.readers.0 made.readers.1 made.log went.2 went.3 went.4)

pub returns-clause-fault : goal.returns-clause-fault
returns-clause-fault g c = device-alone c.take_turns-fault.result _ _ _ c.take_turns-fault.ensures.device
