use Rattle.std.proofs.Common.{[], length, arith, ◌∙◌, refl, ap}
use Rattle.std.proofs.lemmas.Grind.{common_steps}
use Rattle.mio_loops.proofs.ReadingLemmas.{waiting-none, waiting-next}
use Rattle.mio_loops.proofs.offers.make_offers.Goals as goal

pub loop-init : goal.loop-init
loop-init g c =
    record {
      made = ([], waiting-none c.args.number c.args.reader.now (g.D.Door.record_of c.args.door.now));
      waits = grind (arith, common_steps);
      dests = c.requires.dests;
      closed = refl;
    }

pub loop-preserved : goal.loop-preserved
loop-preserved g c =
    let held = c.loop.invariant in
    let next = ap length c.in-Some-next_offer.ensures.offer in
    let waits = held.waits in
    record {
      made = (
        _,
        waiting-next c.args.number held.made.0 _ _ _ c.in-Some.ensures.0 c.args.reader.now c.loop.reader c.next_offer.new.self (g.D.Door.record_of c.args.door.now) (g.D.Door.record_of c.loop.door) (g.D.Door.record_of c.offer_with.new.self)
            held.made.1 c.in-Some.ensures.1 c.in-Some-next_offer.ensures.offer (λ kind plan input taken represents. c.in-Some-next_offer.ensures.represents kind plan input taken represents) c.in-Ok.ensures.made,
      );
      waits = omega (arith, next, waits);
      dests = grind (arith, common_steps);
      closed = c.next_offer.ensures.closed ∙ held.closed;
    }
