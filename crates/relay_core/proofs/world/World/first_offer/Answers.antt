use Rattle.std.proofs.Common.{◌≡◌, [], Option, Some, None, refl, subst, ◌∙◌}
use Rattle.std.specs.Prelude.{slice_get, MatchOption}
use Rattle.reader_core.specs.Kinds.{relay_reading}
use Rattle.relay_core.specs.Run.{reader_in}
use Rattle.relay_core.specs.World.{waiting_of}
use Rattle.relay_core.specs.WorldModel.{WorldModel, OfItsRuns}
use Rattle.relay_core.proofs.Representing.{kept-waiting, no-waiting}
use Rattle.relay_core.proofs.world.World.first_offer.Goals as goal

match-so : {A : Type 0} (o : Option A) (P R : Type 0) (Q S : A → Type 0) → (P → R) → ((x : A) → Q x → S x) → MatchOption o P Q → MatchOption o R S
match-so None P R Q S none some m = none m
match-so (Some x) P R Q S none some m = some x m

pub returns-in-Some : goal.returns-in-Some
returns-in-Some c =
    let got : slice_get c.self.inside.readers.items c.args.reader ≡ Some c.in-Some.reader.now = rw (← c.deref.ensures.value, ← c.reader_at.ensures, c.in-Some.is) refl in
    let waits = subst (λ (s : WorldModel). OfItsRuns s (λ run. waiting_of relay_reading run.configuration (reader_in relay_reading run c.args.reader) ≡ c.in-Some.reader.now.waiting))
    c.self.view_is
    (λ size limit kinds events represents.
    kept-waiting c.read_laws.ensures.sends c.self.inside.plan size limit c.self.inside.readers.items c.self.inside.destinations.items _ c.args.reader c.in-Some.reader.now represents got) in
    match-so c.first_offer.result _ _ _ _
    (λ none size limit kinds events represents. waits size limit kinds events represents ∙ none)
    (λ offer is size limit kinds events represents. (is.0, waits size limit kinds events represents ∙ is.1))
    c.first_offer.ensures

pub returns-in-None : goal.returns-in-None
returns-in-None c =
    let none : slice_get c.self.inside.readers.items c.args.reader ≡ None = rw (← c.deref.ensures.value, ← c.reader_at.ensures, c.in-None.is) refl in
    subst (λ (s : WorldModel). OfItsRuns s (λ run. waiting_of relay_reading run.configuration (reader_in relay_reading run c.args.reader) ≡ [])) c.self.view_is
    (λ size limit kinds events represents.
    no-waiting c.read_laws.ensures.sends c.self.inside.plan size limit c.self.inside.readers.items c.self.inside.destinations.items _ c.args.reader represents none)
