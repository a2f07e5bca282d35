use Rattle.std.proofs.Common.{sym, subst, rules}
use Rattle.queue_records.specs.Strangers.{AreOffersOf}
use Rattle.queue_records.proofs.strangers.DoorRecordSeatRecord.may_be_of.Goals as goal

pub returns-then-len-le-MOST_ENTRIES-clause-none : goal.returns-then-len-le-MOST_ENTRIES-clause-none
returns-then-len-le-MOST_ENTRIES-clause-none c = λ no is. c.are_offers_of.ensures.none no (subst (λ es. AreOffersOf c.args.dests c.args.self.now.seat es) (sym c.as_slice.ensures.value) is.offers)

pub returns-then-len-le-MOST_ENTRIES-clause-all : goal.returns-then-len-le-MOST_ENTRIES-clause-all
returns-then-len-le-MOST_ENTRIES-clause-all c = λ yes.
    let offers = subst (λ es. AreOffersOf c.args.dests c.args.self.now.seat es) c.as_slice.ensures.value (c.are_offers_of.ensures.all yes) in
    search rules
