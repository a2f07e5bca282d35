use Rattle.std.proofs.Common.{◌≡◌, ◌+◌, List, length, true, false, inl, refl, sym, ap, subst, ◌∙◌}
use Rattle.std.specs.Prelude.{slice_get, slice_set}
use Rattle.relay_core.specs.Agreement.{event_of}
use Rattle.relay_core.specs.WorldModel.{WorldModel, SizedDestination, HasAsMany, Applies, NeedsMemory, act_of, sized_after, may_act_at}
use Rattle.relay_core.specs.Stored.{world_model_of}
use Rattle.relay_core.specs.declared.event.Answer.TheVariants.{Done, NotNow, Spent}
use Rattle.relay_core.proofs.Applying.{not_now, spent, done}
use Rattle.relay_core.proofs.Refusals.{on_err, put_back}
use Rattle.std.proofs.lemmas.Result.{IfOk-from_err}
use Rattle.std.specs.List.{All}
use Rattle.relay_core.specs.Stored.{TakesOffers}
use Rattle.relay_core.proofs.OffersTaken.{acted}
use Rattle.std.proofs.lemmas.List.{get_or_default, length-set}
use Rattle.relay_core.specs.Offering.{sized_at}
use Rattle.relay_core.proofs.Representing.{acts-there, act-happens, act-takes, act-answer, after_act}
use Rattle.relay_core.proofs.world.World.act.Goals as goal

pub returns-then-not-may_act-clause-applies : goal.returns-then-not-may_act-clause-applies
returns-then-not-may_act-clause-applies c =
    let event = event_of c.args.dest (act_of c.args.act) in
    let dests = c.self.inside.destinations.items in
    let not : may_act_at (act_of c.args.act) (slice_get dests c.args.dest) ≡ false =
    rw (← c.deref.ensures.value, ← c.destination_at.ensures) (sym c.may_act.ensures ∙ c.if-not-may_act.true) in
    subst (λ (s : WorldModel). Applies s event NotNow s) c.self.view_is
    (not_now c.read_laws.ensures.sends c.read_laws.ensures.closed (world_model_of c.self.inside) event (act-happens c.args.act c.self.inside.readers.items dests c.args.dest ∙ not))

pub returns-then-self-clause-applies : goal.returns-then-self-clause-applies
returns-then-self-clause-applies c =
    let event = event_of c.args.dest (act_of c.args.act) in
    let dests = c.self.inside.destinations.items in
    let may : may_act_at (act_of c.args.act) (slice_get dests c.args.dest) ≡ true =
    rw (← c.deref.ensures.value, ← c.destination_at.ensures) (sym c.may_act.ensures ∙ c.if-not-may_act.false) in
    subst (λ (s : WorldModel). Applies s event Spent s) c.self.view_is
    (spent c.read_laws.ensures.sends c.read_laws.ensures.closed (world_model_of c.self.inside) event (act-happens c.args.act c.self.inside.readers.items dests c.args.dest ∙ may) c.if-self.true)

pub returns-in_err-act-clause-memory : goal.returns-in_err-act-clause-memory
returns-in_err-act-clause-memory c =
    let dests = c.self.inside.destinations.items in
    let may : may_act_at (act_of c.args.act) (slice_get dests c.args.dest) ≡ true =
    rw (← c.deref.ensures.value, ← c.destination_at.ensures) (sym c.may_act.ensures ∙ c.if-not-may_act.false) in
    on_err c.from_residual.result _
    (subst (λ (s : WorldModel). NeedsMemory s (event_of c.args.dest (act_of c.args.act))) c.self.view_is
    (record {
      may = act-happens c.args.act c.self.inside.readers.items dests c.args.dest ∙ may;
      counted = c.if-self.false;
      takes = act-takes c.args.act c.args.dest ∙ c.in_err-act.ensures.memory;
    }))

pub returns-in_err-act-clause-applies : goal.returns-in_err-act-clause-applies
returns-in_err-act-clause-applies c = IfOk-from_err _ _ c.from_residual.ensures.0

pub returns-in_err-act-clause-plan : goal.returns-in_err-act-clause-plan
returns-in_err-act-clause-plan c = ap (λ (s : WorldModel). s.plan) c.self.view_is

pub returns-in_err-act-clause-places : goal.returns-in_err-act-clause-places
returns-in_err-act-clause-places c =
    let dests = c.self.inside.destinations.items in
    let new : WorldModel = record {
      plan = c.self.inside.plan;
      readers = c.self.inside.readers.items;
      destinations = slice_set dests c.args.dest c.act.new.self;
      events = c.self.inside.events;
    } in
    subst (λ (s : WorldModel). HasAsMany new s) c.self.view_is
    (record { readers = refl; destinations = length-set dests c.args.dest c.act.new.self })

pub returns-in_err-act-clause-err : goal.returns-in_err-act-clause-err
returns-in_err-act-clause-err c =
    let old = c.self.inside in
    let same = put_back old.destinations.items c.args.dest _ c.act.new.self _ c.in_err-act.ensures.err c.index_mut.ensures.value in
    on_err c.from_residual.result _
    (ap (λ (l : List SizedDestination). let m : WorldModel = record { plan = old.plan; readers = old.readers.items; destinations = l; events = old.events } in m) same ∙ c.self.view_is)

pub invariant_of-self : goal.invariant_of-self
invariant_of-self c =
    let old = c.self.inside in
    let same = put_back old.destinations.items c.args.dest _ c.act.new.self _ c.in_err-act.ensures.err c.index_mut.ensures.value in
    subst (λ (l : List SizedDestination). All (TakesOffers (length old.readers.items) old.events) l) (sym same) c.self.invariant

pub returns-clause-plan : goal.returns-clause-plan
returns-clause-plan c = ap (λ (s : WorldModel). s.plan) c.self.view_is

pub invariant_of-self-2 : goal.invariant_of-self-2
invariant_of-self-2 c =
    let dests = c.self.inside.destinations.items in
    let may : may_act_at (act_of c.args.act) (slice_get dests c.args.dest) ≡ true =
    rw (← c.deref.ensures.value, ← c.destination_at.ensures) (sym c.may_act.ensures ∙ c.if-not-may_act.false) in
    let there = acts-there (act_of c.args.act) dests c.args.dest may in
    acted (length c.self.inside.readers.items) c.self.inside.events c.args.dest (act_of c.args.act) dests c.act.new.self there
    (c.in_ok-act.ensures.act ∙ ap (λ (s : SizedDestination). sized_after (act_of c.args.act) s) (c.index_mut.ensures.value ∙ get_or_default dests c.args.dest _ _ there))
    c.self.invariant

pub returns-clause-places : goal.returns-clause-places
returns-clause-places c =
    let dests = c.self.inside.destinations.items in
    let new : WorldModel = record {
      plan = c.self.inside.plan;
      readers = c.self.inside.readers.items;
      destinations = slice_set dests c.args.dest c.act.new.self;
      events = c.self.inside.events + 1;
    } in
    subst (λ (s : WorldModel). HasAsMany new s) c.self.view_is
    (record { readers = refl; destinations = length-set dests c.args.dest c.act.new.self })

pub returns-clause-applies : goal.returns-clause-applies
returns-clause-applies c =
    let act = act_of c.args.act in
    let event = event_of c.args.dest act in
    let readers = c.self.inside.readers.items in
    let dests = c.self.inside.destinations.items in
    let may : may_act_at act (slice_get dests c.args.dest) ≡ true =
    rw (← c.deref.ensures.value, ← c.destination_at.ensures) (sym c.may_act.ensures ∙ c.if-not-may_act.false) in
    let there = acts-there act dests c.args.dest may in
    let new : WorldModel = record {
      plan = c.self.inside.plan;
      readers = readers;
      destinations = slice_set dests c.args.dest c.act.new.self;
      events = c.self.inside.events + 1;
    } in
    let acted : c.act.new.self ≡ sized_after act (sized_at dests c.args.dest) =
    c.in_ok-act.ensures.act ∙ ap (λ (s : SizedDestination). sized_after act s) (c.index_mut.ensures.value ∙ get_or_default dests c.args.dest _ _ there) in
    subst (λ (s : WorldModel). Applies s event Done new) c.self.view_is
    (done c.read_laws.ensures.sends c.read_laws.ensures.closed (world_model_of c.self.inside) new event Done (act-happens c.args.act readers dests c.args.dest ∙ may) refl refl (inl refl)
    (λ size limit w is. (
      rw acted (after_act c.read_laws.ensures.sends c.self.inside.plan size limit c.args.act readers dests w c.args.dest is),
      act-answer c.self.inside.plan size limit c.args.act w c.args.dest,
    )))
