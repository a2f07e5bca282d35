use Rattle.std.proofs.Common.{◌≡◌, ◌∷◌, ℕ, List, arith, refl, subst}
use Rattle.std.proofs.lemmas.Bool.Decides.{nat_tests}
use Rattle.std.specs.Arc.{arc_value}
use Rattle.line_text.specs.Datapoint.{Datapoint}
use Rattle.dest_queue.specs.Step.{recorded_of}
use Rattle.reader_core.specs.Configuration.{Dispatch}
use Rattle.reader_core.specs.Kinds.{relay_reading}
use Rattle.relay_core.specs.Run.{reader_in}
use Rattle.relay_core.specs.World.{waiting_of}
use Rattle.relay_core.specs.WorldModel.{OfItsRuns}
use Rattle.run_record.specs.Making.{IsOffer}
use Rattle.run_record.proofs.queue_step.is_first.Goals as goal

pub returns-then-to-dest : goal.returns-then-to-dest
returns-then-to-dest c = λ same.
    let there : c.in-Some.to.0 ≡ c.args.dest = grind (arith, nat_tests, c.if-to-dest.true) in
    record {
      number = c.in-Some-next_number.next;
      point = arc_value c.in-Some.first.now;
      is = subst (λ (p : Datapoint). IsOffer (recorded_of c.args.step.now) c.args.reader c.in-Some-next_number.next p) c.deref.ensures (c.is_offer_of.ensures same);
      there = (c.in-Some-next_number.ensures.there.0 refl).1;
      numbered = c.in-Some-next_number.ensures.number;
      waits = subst (λ (d : ℕ). OfItsRuns c.args.world.now (λ run. (others : List Dispatch)
          × (waiting_of relay_reading run.configuration (reader_in relay_reading run c.args.reader) ≡ record { dest = d; point = arc_value c.in-Some.first.now } ∷ others)))
          there c.in-Some.ensures;
    }
