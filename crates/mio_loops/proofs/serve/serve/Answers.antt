use Rattle.std.proofs.Common.{◌++◌, ◌∷◌, [], List, Some, sym, subst, ◌∙◌}
use Rattle.std.proofs.lemmas.List.{append-nil}
use Rattle.reader_core.specs.Configuration.{Dispatch}
use Rattle.reader_core.specs.Entries.{InputEntry, End}
use Rattle.mio_loops.specs.Reading.{ReaderProgress}
use Rattle.mio_loops.specs.Serving.{ConnectionServed}
use Rattle.mio_loops.proofs.ReadingLemmas.{went-entry, went-then, goes-end}
use Rattle.mio_loops.proofs.ServingLemmas.{with_end-stays, with_end-leaves}
use Rattle.queue_records.specs.Offers.{IsRefusedBy}
use Rattle.mio_loops.specs.Reading.{AreMadeOrRefused}
use Rattle.mio_loops.proofs.serve.serve.Goals as goal

pub returns-then-stays-clause-went : goal.returns-then-stays-clause-went
returns-then-stays-clause-went g c =
    let w = c.serve_reads-served.ensures.went in (
      w.0,
      w.1,
      subst (λ (es : List InputEntry). ReaderProgress c.args.plan.now c.args.turn.number es w.1 c.args.reader.now c.serve_reads-served.new.reader (g.D.Door.record_of c.args.door.now) (g.D.Door.record_of c.serve_reads-served.new.door) c.args.room.now.log c.serve_reads-served.new.room.log)
          (sym (with_end-stays c.serve_reads-served.result w.0 (sym c.stays.ensures ∙ c.if-stays.true))) w.2,
      w.3,
    )

pub returns-clause-went : goal.returns-clause-went
returns-clause-went g c =
    let w = c.serve_reads-served.ensures.went in
    let plan = c.args.plan.now in
    let n = c.args.turn.number in
    let door = g.D.Door.record_of c.serve_reads-served.new.door in
    let ended = went-entry plan n End c.serve_reads-served.new.reader c.end.new.self door c.serve_reads-served.new.room.log c.end-2.new.self
    (goes-end plan c.serve_reads-served.new.reader c.end.new.self (λ kind input taken represents. c.end.ensures.represents kind plan input taken represents)) c.end-2.ensures in
    let whole = went-then plan n w.0 (End ∷ []) w.1 [] _ _ _ _ _ _ _ _ _ w.2 ended in (
      w.0,
      w.1,
      subst (λ (es : List InputEntry). ReaderProgress plan n es w.1 c.args.reader.now c.end.new.self (g.D.Door.record_of c.args.door.now) door c.args.room.now.log c.end-2.new.self)
          (sym (with_end-leaves c.serve_reads-served.result w.0 (sym c.stays.ensures ∙ c.if-stays.false)))
          (subst (λ (ds : List Dispatch). ReaderProgress plan n (w.0 ++ End ∷ []) ds c.args.reader.now c.end.new.self (g.D.Door.record_of c.args.door.now) door c.args.room.now.log c.end-2.new.self) (append-nil w.1) whole),
      subst (λ (left : List Dispatch). ConnectionServed g.S.Read.remaining plan c.args.turn.moment c.serve_reads-served.result w.0 w.1 (Some c.args.reader.now) left c.args.source.now c.serve_reads-served.new.source) (sym c.end.ensures.waits) w.3,
    )

pub returns-clause-waits : goal.returns-clause-waits
returns-clause-waits g c =
    subst (λ (left : List Dispatch). AreMadeOrRefused (IsRefusedBy g.D.Door.may_refuse c.args.turn.number) c.args.plan.now.destinations left) (sym c.end.ensures.waits) c.serve_reads-served.ensures.waits
