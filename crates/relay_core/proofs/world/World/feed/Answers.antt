use Rattle.std.proofs.Common.{◌≡◌, ℕ, ◌+◌, List, length, true, false, inl, refl, sym, ap, subst, ◌∙◌}
use Rattle.std.specs.Prelude.{slice_get, slice_set}
use Rattle.relay_core.specs.World.{Piece}
use Rattle.relay_core.specs.WorldModel.{WorldModel, HasAsMany, Applies, NeedsMemory, may_be_fed}
use Rattle.relay_core.specs.Stored.{world_model_of}
use Rattle.relay_core.specs.declared.event.Answer.TheVariants.{Done, NotNow, Spent}
use Rattle.reader_core.specs.Reader.{ReaderModel, Represents}
use Rattle.relay_core.proofs.Applying.{not_now, spent, done}
use Rattle.relay_core.proofs.Refusals.{on_err, put_back}
use Rattle.std.proofs.lemmas.Result.{IfOk-from_err}
use Rattle.router.specs.Plan.{Plan}
use Rattle.relay_core.proofs.OffersTaken.{all-more}
use Rattle.std.proofs.lemmas.List.{length-set}
use Rattle.relay_core.proofs.Representing.{fed-there, after_piece}
use Rattle.relay_core.proofs.world.World.feed.Goals as goal

-- a world with a plan, one reader and its events after a piece
abbrev fed : WorldModel → Plan → ℕ → ReaderModel → ℕ → WorldModel
fed world plan reader after events =
    record { plan = plan; readers = slice_set world.readers reader after; destinations = world.destinations; events = events }

pub returns-then-not-may_be_fed-clause-applies : goal.returns-then-not-may_be_fed-clause-applies
returns-then-not-may_be_fed-clause-applies c =
    let event = Piece c.args.reader c.args.piece.now c.args.moment in
    let not : may_be_fed (slice_get c.self.inside.readers.items c.args.reader) ≡ false =
    rw (← c.deref.ensures.value, ← c.reader_at.ensures) (sym c.may_be_fed.ensures ∙ c.if-not-may_be_fed.true) in
    subst (λ (s : WorldModel). Applies s event NotNow s) c.self.view_is
    (not_now c.read_laws.ensures.sends c.read_laws.ensures.closed (world_model_of c.self.inside) event not)

pub returns-then-self-clause-applies : goal.returns-then-self-clause-applies
returns-then-self-clause-applies c =
    let event = Piece c.args.reader c.args.piece.now c.args.moment in
    let may : may_be_fed (slice_get c.self.inside.readers.items c.args.reader) ≡ true =
    rw (← c.deref.ensures.value, ← c.reader_at.ensures) (sym c.may_be_fed.ensures ∙ c.if-not-may_be_fed.false) in
    subst (λ (s : WorldModel). Applies s event Spent s) c.self.view_is
    (spent c.read_laws.ensures.sends c.read_laws.ensures.closed (world_model_of c.self.inside) event may c.if-self.true)

pub returns-in_err-feed_reader-clause-memory : goal.returns-in_err-feed_reader-clause-memory
returns-in_err-feed_reader-clause-memory c =
    let may : may_be_fed (slice_get c.self.inside.readers.items c.args.reader) ≡ true =
    rw (← c.deref.ensures.value, ← c.reader_at.ensures) (sym c.may_be_fed.ensures ∙ c.if-not-may_be_fed.false) in
    on_err c.from_residual.result _
    (subst (λ (s : WorldModel). NeedsMemory s (Piece c.args.reader c.args.piece.now c.args.moment)) c.self.view_is
    (record { may = may; counted = c.if-self.false; takes = refl }))

pub returns-in_err-feed_reader-clause-applies : goal.returns-in_err-feed_reader-clause-applies
returns-in_err-feed_reader-clause-applies c = IfOk-from_err _ _ c.from_residual.ensures.0

pub returns-in_err-feed_reader-clause-plan : goal.returns-in_err-feed_reader-clause-plan
returns-in_err-feed_reader-clause-plan c = c.in_err-feed_reader.ensures.plan ∙ ap (λ (s : WorldModel). s.plan) c.self.view_is

pub returns-in_err-feed_reader-clause-places : goal.returns-in_err-feed_reader-clause-places
returns-in_err-feed_reader-clause-places c =
    let old = c.self.inside in
    let new = fed (world_model_of old) c.feed_reader.new.plan c.args.reader c.feed_reader.new.reader old.events in
    subst (λ (s : WorldModel). HasAsMany new s) c.self.view_is
    (record { readers = length-set old.readers.items c.args.reader c.feed_reader.new.reader; destinations = refl })

pub returns-in_err-feed_reader-clause-err : goal.returns-in_err-feed_reader-clause-err
returns-in_err-feed_reader-clause-err c =
    let old = c.self.inside in
    let new = c.feed_reader.new.reader in
    let same = put_back old.readers.items c.args.reader _ new _ c.in_err-feed_reader.ensures.err c.index_mut.ensures.value in
    on_err c.from_residual.result _
    (ap (λ (p : Plan). fed (world_model_of old) p c.args.reader new old.events) c.in_err-feed_reader.ensures.plan
    ∙ ap (λ (l : List ReaderModel). let m : WorldModel = record { plan = old.plan; readers = l; destinations = old.destinations.items; events = old.events } in m) same
    ∙ c.self.view_is)

pub invariant_of-self : goal.invariant_of-self
invariant_of-self c = rw length-set c.self.invariant

pub returns-clause-plan : goal.returns-clause-plan
returns-clause-plan c = c.in_ok-feed_reader.ensures.plan ∙ ap (λ (s : WorldModel). s.plan) c.self.view_is

pub invariant_of-self-2 : goal.invariant_of-self-2
invariant_of-self-2 c =
    rw length-set
    (all-more (length c.self.inside.readers.items) c.self.inside.events c.self.inside.destinations.items c.self.invariant)

pub returns-clause-places : goal.returns-clause-places
returns-clause-places c =
    let readers = c.self.inside.readers.items in
    let new = fed (world_model_of c.self.inside) c.feed_reader.new.plan c.args.reader c.feed_reader.new.reader (c.self.inside.events + 1) in
    subst (λ (s : WorldModel). HasAsMany new s) c.self.view_is
    (record { readers = length-set readers c.args.reader c.feed_reader.new.reader; destinations = refl })

pub returns-clause-applies : goal.returns-clause-applies
returns-clause-applies c =
    let event = Piece c.args.reader c.args.piece.now c.args.moment in
    let readers = c.self.inside.readers.items in
    let old = c.index_mut.result.now in
    let may : may_be_fed (slice_get readers c.args.reader) ≡ true =
    rw (← c.deref.ensures.value, ← c.reader_at.ensures) (sym c.may_be_fed.ensures ∙ c.if-not-may_be_fed.false) in
    let new = fed (world_model_of c.self.inside) c.feed_reader.new.plan c.args.reader c.feed_reader.new.reader (c.self.inside.events + 1) in
    subst (λ (s : WorldModel). Applies s event Done new) c.self.view_is
    (done c.read_laws.ensures.sends c.read_laws.ensures.closed (world_model_of c.self.inside) new event Done may c.in_ok-feed_reader.ensures.plan refl (inl refl)
    (λ size limit w is. (
      after_piece c.read_laws.ensures.sends c.self.inside.plan size limit readers c.self.inside.destinations.items w c.args.reader old c.feed_reader.new.reader c.args.piece.now c.args.moment is
          (fed-there readers c.args.reader may)
          (λ kind input taken represents. c.in_ok-feed_reader.ensures.represents kind input taken (subst (λ (s : ReaderModel). Represents s kind c.self.inside.plan input taken) (sym c.index_mut.ensures.value) represents)),
      refl,
    )))
