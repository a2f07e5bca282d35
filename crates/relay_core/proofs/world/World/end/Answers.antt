use Rattle.std.proofs.Common.{◌<◌, ◌+◌, length, inl, refl, sym, subst, arith}
use Rattle.std.proofs.lemmas.Grind.{common_steps}
use Rattle.std.specs.Prelude.{slice_set}
use Rattle.relay_core.specs.World.{End}
use Rattle.relay_core.specs.WorldModel.{WorldModel, Applies}
use Rattle.relay_core.specs.Stored.{world_model_of}
use Rattle.relay_core.specs.declared.event.Answer.TheVariants.{Done, NotNow, Spent}
use Rattle.reader_core.specs.Reader.{ReaderModel, Represents}
use Rattle.relay_core.proofs.Applying.{not_now, spent, done}
use Rattle.std.proofs.lemmas.Bool.{lt-ltb, le-ltb}
use Rattle.relay_core.proofs.Representing.{after_end}
use Rattle.relay_core.proofs.world.World.end.Goals as goal

pub returns-then-reader-len-clause-applies : goal.returns-then-reader-len-clause-applies
returns-then-reader-len-clause-applies c =
    let event = End c.args.reader in
    subst (λ (s : WorldModel). Applies s event NotNow s) c.self.view_is
    (not_now c.read_laws.ensures.sends c.read_laws.ensures.closed (world_model_of c.self.inside) event (le-ltb _ _ (grind (arith, common_steps))))

pub returns-then-self-clause-applies : goal.returns-then-self-clause-applies
returns-then-self-clause-applies c =
    let event = End c.args.reader in
    subst (λ (s : WorldModel). Applies s event Spent s) c.self.view_is
    (spent c.read_laws.ensures.sends c.read_laws.ensures.closed (world_model_of c.self.inside) event (lt-ltb _ _ (grind (arith, common_steps))) c.if-self.true)

pub returns-clause-applies : goal.returns-clause-applies
returns-clause-applies c =
    let event = End c.args.reader in
    let readers = c.self.inside.readers.items in
    let old = c.index_mut.result.now in
    let there : c.args.reader < length readers = grind (arith, common_steps) in
    let new : WorldModel = record {
      plan = c.self.inside.plan;
      readers = slice_set readers c.args.reader c.end.new.self;
      destinations = c.self.inside.destinations.items;
      events = c.self.inside.events + 1;
    } in
    subst (λ (s : WorldModel). Applies s event Done new) c.self.view_is
    (done c.read_laws.ensures.sends c.read_laws.ensures.closed (world_model_of c.self.inside) new event Done (lt-ltb _ _ there) refl refl (inl refl)
    (λ size limit w is. (
      after_end c.read_laws.ensures.sends c.self.inside.plan size limit readers c.self.inside.destinations.items w c.args.reader old c.end.new.self is there
          (λ kind input taken represents. c.end.ensures.represents kind c.self.inside.plan input taken (subst (λ (s : ReaderModel). Represents s kind c.self.inside.plan input taken) (sym c.index_mut.ensures.value) represents)),
      refl,
    )))
