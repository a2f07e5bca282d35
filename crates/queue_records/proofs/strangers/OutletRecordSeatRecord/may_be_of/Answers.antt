use Rattle.std.proofs.Common.{sym, subst, rules}
use Rattle.queue_records.specs.Strangers.{AreTakesOf}
use Rattle.queue_records.proofs.strangers.OutletRecordSeatRecord.may_be_of.Goals as goal

pub returns-then-len-le-MOST_ENTRIES-clause-none : goal.returns-then-len-le-MOST_ENTRIES-clause-none
returns-then-len-le-MOST_ENTRIES-clause-none c = λ no is. c.are_takes_of.ensures.none no (subst (λ es. AreTakesOf c.args.dests c.args.seats c.args.self.now.seat es) (sym c.as_slice.ensures.value) is.takes)

pub returns-then-len-le-MOST_ENTRIES-clause-all : goal.returns-then-len-le-MOST_ENTRIES-clause-all
returns-then-len-le-MOST_ENTRIES-clause-all c = λ yes.
    let takes = subst (λ es. AreTakesOf c.args.dests c.args.seats c.args.self.now.seat es) c.as_slice.ensures.value (c.are_takes_of.ensures.all yes) in
    search rules
