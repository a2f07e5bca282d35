use Rattle.std.proofs.Common.{sym, subst}
use Rattle.queue_records.specs.Offers.{IsRefusedBy}
use Rattle.mio_loops.specs.InputLog.{LogState}
use Rattle.receivers.specs.Record.{RanOrRefused}
use Rattle.receivers.proofs.RanLemmas.{none-ran}
use Rattle.receivers.proofs.record.without_memory.Goals as goal

pub returns-clause-ran : goal.returns-clause-ran
returns-clause-ran g c = λ plan receiver may_give.
    let made = g.D.Door.record_of c.args.door in
    subst (λ (l : LogState). RanOrRefused (IsRefusedBy g.D.Door.may_refuse) c.args.kind plan receiver may_give l made made) (sym c.none.ensures)
    (none-ran (IsRefusedBy g.D.Door.may_refuse) c.args.kind plan c.new-reader.result receiver may_give made (c.new-reader.ensures.represents plan))
