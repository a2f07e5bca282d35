use Rattle.std.proofs.Common.{sym, subst}
use Rattle.queue_records.specs.Offers.{IsReaderOf, IsRefusedBy}
use Rattle.mio_loops.specs.InputLog.{LogState}
use Rattle.reader_core.specs.declared.kind.ReaderKind.TheVariants.{Datagram}
use Rattle.receivers.specs.Record.{RanOrRefused}
use Rattle.receivers.proofs.RanLemmas.{device-alone, one-ran, first-of}
use Rattle.receivers.proofs.DatagramLemmas.{ready-first}
use Rattle.receivers.proofs.datagram_receiver.receive_datagrams.Goals as goal

pub take_turns-fault-requires : goal.take_turns-fault-requires
take_turns-fault-requires g c =
    rw c.make_room.ensures
    (ready-first c.args.receiver.plan c.in-Ok.datagrams (g.D.Door.record_of c.args.receiver.door) (c.in-Ok.ensures.fresh c.args.receiver.plan) c.requires.1)

pub returns-clause-ran : goal.returns-clause-ran
returns-clause-ran g c =
    let begun = c.in-Ok.ensures in
    let all = rw c.make_room.ensures at c.take_turns-fault.ensures.went in
    let went = all.went in
    let loop = c.in-Ok.datagrams in
    let new = c.take_turns-fault.new.datagrams in
    let may_give = g.T.TimeSource.may_give c.args.times.now in
    let before = g.D.Door.record_of c.args.receiver.door in
    let after = g.D.Door.record_of c.take_turns-fault.new.receiver.door in
    subst (λ (l : LogState). RanOrRefused (IsRefusedBy g.D.Door.may_refuse) Datagram c.args.receiver.plan c.args.receiver.number may_give l before after) (sym c.close-log.ensures)
    (one-ran (IsRefusedBy g.D.Door.may_refuse) Datagram c.args.receiver.plan loop.reader c.args.receiver.number _ may_give went.0 went.1 new.reader before after loop.log new.log
    (begun.fresh c.args.receiver.plan) begun.log (subst (IsReaderOf c.args.receiver.number) (sym begun.number) (first-of c.args.receiver.number)) went.2 went.3 all.waits)

pub returns-clause-fault : goal.returns-clause-fault
returns-clause-fault g c = device-alone c.take_turns-fault.result _ _ _ c.take_turns-fault.ensures.device
