use Rattle.std.proofs.Common.{refl, subst}
use Rattle.queue_records.specs.Strangers.{IsOfferOf}
use Rattle.queue_records.specs.declared.made.Made.{Made}
use Rattle.queue_records.proofs.Places.{each_more}
use Rattle.queue_records.proofs.strangers.are_offers_of.Goals as goal

pub loop-entry-preserved : goal.loop-entry-preserved
loop-entry-preserved c =
    each_more (λ i (e : Made). IsOfferOf c.args.dests c.args.receiver e) c.args.made.now c.loop-entry.entry-index c.entry-item.result c.loop-entry-test.true c.loop-entry.invariant
    (subst (λ (e : Made). IsOfferOf c.args.dests c.args.receiver e) c.entry-item.is (c.if-not-is_offer_of.ensures.all refl))
