use Rattle.std.proofs.Common.{inl, inr, List, map, replicate, refl, sym, subst}
use Rattle.mio_loops.specs.OutgoingState.{OutgoingState}
use Rattle.mio_loops.specs.WriteLoop.{fresh_outgoing}
use Rattle.mio_loops.specs.WriterLog.{WriterLog}
use Rattle.queue_records.specs.Takes.{IsHandedBy}
use Rattle.senders.specs.Steps.{SomeProgress}
use Rattle.senders.specs.Record.{RanAsHanded}
use Rattle.senders.proofs.RecordLemmas.{device-alone, fresh-not-up, ran-from-fresh}
use Rattle.senders.proofs.send.send_batches.Goals as goal

pub returns-clause-ran : goal.returns-clause-ran
returns-clause-ran g c =
    let went = c.take_turns-fault.ensures.went in
    let record_of = g.S.Supply.record_of in
    let may_hand = IsHandedBy record_of g.S.Supply.may_hand in
    let from_new : SomeProgress may_hand (replicate c.args.sender.dests (fresh_outgoing c.args.sender.limit)) c.take_turns-fault.new.writes (record_of c.args.sender.supply) (record_of c.take_turns-fault.new.supply.supply) =
    subst (λ (os : List (OutgoingState g.row.N-Sink.Denot)). SomeProgress may_hand os c.take_turns-fault.new.writes (record_of c.args.sender.supply) (record_of c.take_turns-fault.new.supply.supply)) c.in-Ok.ensures
    (subst (λ (s : g.row.S.Denot). SomeProgress may_hand c.in-Ok.writes c.take_turns-fault.new.writes (record_of s) (record_of c.take_turns-fault.new.supply.supply)) c.new-supply.ensures went) in
    inl (subst (λ (logs : List WriterLog). RanAsHanded may_hand c.args.sender.dests c.args.sender.limit logs (record_of c.args.sender.supply) (record_of c.into_supply.result)) (sym c.release-logs.ensures.logs)
    (subst (λ (s : g.row.S.Denot). RanAsHanded may_hand c.args.sender.dests c.args.sender.limit (map (λ (o : OutgoingState g.row.N-Sink.Denot). o.log) c.take_turns-fault.new.writes) (record_of c.args.sender.supply) (record_of s)) (sym c.into_supply.ensures)
    (ran-from-fresh may_hand c.args.sender.dests c.args.sender.limit _ _ _ from_new)))

pub returns-clause-fault : goal.returns-clause-fault
returns-clause-fault g c = device-alone c.take_turns-fault.result _ _ _ c.take_turns-fault.ensures.device

pub take_turns-fault-requires : goal.take_turns-fault-requires
take_turns-fault-requires g c =
    record { owned = λ dest up. absurd (fresh-not-up c.args.sender.dests c.args.sender.limit c.in-Ok.writes dest c.in-Ok.ensures up) }

-- ---- there was no memory

pub returns-in_default-clause-ran : goal.returns-in_default-clause-ran
returns-in_default-clause-ran g c = inr (refl, c.no_logs.ensures, refl)

pub returns-in_default-clause-fault : goal.returns-in_default-clause-fault
returns-in_default-clause-fault g c = (c.no_logs.ensures, refl)
