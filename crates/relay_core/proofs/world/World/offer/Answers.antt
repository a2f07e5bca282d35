use Rattle.std.proofs.Common.{◌≡◌, ◌+◌, ◌++◌, [], ◌∷◌, List, true, false, length, refl, sym, ap, subst, ◌∙◌, arith}
use Rattle.std.proofs.lemmas.Grind.{common_steps}
use Rattle.std.specs.Prelude.{slice_get, slice_set}
use Rattle.relay_core.specs.World.{Offer}
use Rattle.relay_core.specs.WorldModel.{WorldModel, SizedDestination, HasAsMany, Applies, NeedsMemory, may_offer}
use Rattle.relay_core.specs.Stored.{world_model_of, TakesOffers}
use Rattle.relay_core.specs.declared.event.Answer.TheVariants.{NotNow, Spent}
use Rattle.reader_core.specs.Reader.{ReaderModel, Represents}
use Rattle.relay_core.proofs.Applying.{not_now, spent, done}
use Rattle.relay_core.proofs.Refusals.{on_err, put_back}
use Rattle.std.proofs.lemmas.Result.{IfOk-from_err}
use Rattle.std.specs.List.{All}
use Rattle.std.proofs.lemmas.List.{length-set}
use Rattle.relay_core.proofs.Representing.{offers-there, after_offer, answer_offer, offer-happened}
use Rattle.router.specs.Plan.{Plan}
use Rattle.reader_core.specs.Input.{Stream}
use Rattle.reader_core.specs.Configuration.{Dispatch}
use Rattle.reader_core.specs.declared.kind.ReaderKind.{ReaderKind}
use Rattle.relay_core.specs.Offering.{OfFirst, dests_after_offer, offer_answer}
use Rattle.relay_core.proofs.OffersTaken.{offered, offered-length}
use Rattle.relay_core.proofs.world.World.offer.Goals as goal

pub returns-then-not-may_offer-clause-applies : goal.returns-then-not-may_offer-clause-applies
returns-then-not-may_offer-clause-applies c =
    let event = Offer c.args.reader in
    let not : may_offer (slice_get c.self.inside.readers.items c.args.reader) ≡ false =
    rw (← c.deref.ensures.value, ← c.reader_at.ensures) (sym c.may_offer.ensures ∙ c.if-not-may_offer.true) in
    subst (λ (s : WorldModel). Applies s event NotNow s) c.self.view_is
    (not_now c.read_laws.ensures.sends c.read_laws.ensures.closed (world_model_of c.self.inside) event not)

pub returns-then-self-clause-applies : goal.returns-then-self-clause-applies
returns-then-self-clause-applies c =
    let event = Offer c.args.reader in
    let may : may_offer (slice_get c.self.inside.readers.items c.args.reader) ≡ true =
    rw (← c.deref.ensures.value, ← c.reader_at.ensures) (sym c.may_offer.ensures ∙ c.if-not-may_offer.false) in
    subst (λ (s : WorldModel). Applies s event Spent s) c.self.view_is
    (spent c.read_laws.ensures.sends c.read_laws.ensures.closed (world_model_of c.self.inside) event may c.if-self.true)

pub offer_first-requires-clause-takes : goal.offer_first-requires-clause-takes
offer_first-requires-clause-takes c =
    let may : may_offer (slice_get c.self.inside.readers.items c.args.reader) ≡ true =
    rw (← c.deref.ensures.value, ← c.reader_at.ensures) (sym c.may_offer.ensures ∙ c.if-not-may_offer.false) in
    (length c.self.inside.readers.items, c.self.inside.events, offers-there c.self.inside.readers.items c.args.reader may, grind (arith, common_steps), c.self.invariant)

pub invariant_of-self-2 : goal.invariant_of-self-2
invariant_of-self-2 c =
    rw length-set
    (offered (length c.self.inside.readers.items) c.self.inside.events c.args.reader c.index_mut.result.now.waiting
    c.self.inside.destinations.items c.offer_first.new.destinations.items c.in_ok-answer.ensures.destinations c.self.invariant)

pub returns-in_err-answer-clause-applies : goal.returns-in_err-answer-clause-applies
returns-in_err-answer-clause-applies c = IfOk-from_err _ _ c.from_residual.ensures.0

pub returns-in_err-answer-clause-plan : goal.returns-in_err-answer-clause-plan
returns-in_err-answer-clause-plan c = ap (λ (s : WorldModel). s.plan) c.self.view_is

pub returns-in_err-answer-clause-places : goal.returns-in_err-answer-clause-places
returns-in_err-answer-clause-places c =
    let old = c.self.inside in
    let new : WorldModel = record {
      plan = old.plan;
      readers = slice_set old.readers.items c.args.reader c.offer_first.new.reader;
      destinations = c.offer_first.new.destinations.items;
      events = old.events;
    } in
    subst (λ (s : WorldModel). HasAsMany new s) c.self.view_is
    (record { readers = length-set old.readers.items c.args.reader c.offer_first.new.reader; destinations = c.in_err-answer.ensures.count })

pub returns-in_err-answer-clause-err : goal.returns-in_err-answer-clause-err
returns-in_err-answer-clause-err c =
    let old = c.self.inside in
    let new = c.offer_first.new.reader in
    let same = put_back old.readers.items c.args.reader _ new _ c.in_err-answer.ensures.reader_err c.index_mut.ensures.value in
    on_err c.from_residual.result _
    (ap (λ (l : List SizedDestination). let m : WorldModel = record { plan = old.plan; readers = slice_set old.readers.items c.args.reader new; destinations = l; events = old.events } in m)
    c.in_err-answer.ensures.destinations_err
    ∙ ap (λ (l : List ReaderModel). let m : WorldModel = record { plan = old.plan; readers = l; destinations = old.destinations.items; events = old.events } in m) same
    ∙ c.self.view_is)

pub invariant_of-self : goal.invariant_of-self
invariant_of-self c =
    rw length-set
    (subst (λ (l : List SizedDestination). All (TakesOffers (length c.self.inside.readers.items) c.self.inside.events) l) (sym c.in_err-answer.ensures.destinations_err) c.self.invariant)

pub returns-clause-plan : goal.returns-clause-plan
returns-clause-plan c = ap (λ (s : WorldModel). s.plan) c.self.view_is

pub returns-in_err-answer-clause-memory : goal.returns-in_err-answer-clause-memory
returns-in_err-answer-clause-memory c =
    let may : may_offer (slice_get c.self.inside.readers.items c.args.reader) ≡ true =
    rw (← c.deref.ensures.value, ← c.reader_at.ensures) (sym c.may_offer.ensures ∙ c.if-not-may_offer.false) in
    on_err c.from_residual.result _
    (subst (λ (s : WorldModel). NeedsMemory s (Offer c.args.reader)) c.self.view_is
    (record { may = may; counted = c.if-self.false; takes = refl }))

pub returns-clause-places : goal.returns-clause-places
returns-clause-places c =
    let readers = c.self.inside.readers.items in
    let dests = c.self.inside.destinations.items in
    let new : WorldModel = record {
      plan = c.self.inside.plan;
      readers = slice_set readers c.args.reader c.offer_first.new.reader;
      destinations = c.offer_first.new.destinations.items;
      events = c.self.inside.events + 1;
    } in
    subst (λ (s : WorldModel). HasAsMany new s) c.self.view_is
    (record {
      readers = length-set readers c.args.reader c.offer_first.new.reader;
      destinations = offered-length c.args.reader c.index_mut.result.now.waiting dests c.offer_first.new.destinations.items c.in_ok-answer.ensures.destinations;
    })

pub returns-clause-applies : goal.returns-clause-applies
returns-clause-applies c =
    let event = Offer c.args.reader in
    let answer = c.in_ok-answer.answer in
    let plan = c.self.inside.plan in
    let readers = c.self.inside.readers.items in
    let dests = c.self.inside.destinations.items in
    let old = c.index_mut.result.now in
    let value = c.index_mut.ensures.value in
    let new_reader = c.offer_first.new.reader in
    let new_dests = c.offer_first.new.destinations.items in
    let may : may_offer (slice_get readers c.args.reader) ≡ true =
    rw (← c.deref.ensures.value, ← c.reader_at.ensures) (sym c.may_offer.ensures ∙ c.if-not-may_offer.false) in
    let there = offers-there readers c.args.reader may in
    let takes =
    subst (λ (s : ReaderModel). OfFirst s.waiting (λ sent. (kind : ReaderKind) (p : Plan) (input : List Stream) (taken : List Dispatch)
    → Represents s kind p input taken → Represents new_reader kind p input (taken ++ sent ∷ []))) value c.in_ok-answer.ensures.reader in
    let same = subst (λ (s : ReaderModel). OfFirst s.waiting (λ sent. new_dests ≡ dests_after_offer c.args.reader sent dests)) value c.in_ok-answer.ensures.destinations in
    let answered = subst (λ (s : ReaderModel). OfFirst s.waiting (λ sent. answer ≡ offer_answer dests sent)) value c.in_ok-answer.ensures.answer in
    let new : WorldModel = record {
      plan = plan;
      readers = slice_set readers c.args.reader new_reader;
      destinations = new_dests;
      events = c.self.inside.events + 1;
    } in
    subst (λ (s : WorldModel). Applies s event answer new) c.self.view_is
    (done c.read_laws.ensures.sends c.read_laws.ensures.closed (world_model_of c.self.inside) new event answer may refl refl
    (offer-happened old.waiting dests answer c.in_ok-answer.ensures.answer)
    (λ size limit w is. (
      after_offer c.read_laws.ensures.sends plan size limit readers dests new_dests w c.args.reader old new_reader is there takes same,
      answer_offer c.read_laws.ensures.sends plan size limit readers dests w c.args.reader old answer is there answered,
    )))
