use Rattle.std.proofs.Common.{[], refl, sym, subst, ap, ◌∙◌}
use Rattle.router.specs.Plan.{Plan}
use Rattle.reader_core.specs.Reader.{ReaderModel}
use Rattle.mio_loops.specs.Reading.{ReaderProgress}
use Rattle.mio_loops.proofs.ReadingLemmas.{went-none, went-piece}
use Rattle.queue_records.specs.Offers.{IsRefusedBy}
use Rattle.mio_loops.proofs.ServingLemmas.{none-waits, waits-among}
use Rattle.mio_loops.proofs.serve.feed_piece.Goals as goal

pub returns-in_default-clause-went : goal.returns-in_default-clause-went
returns-in_default-clause-went g c =
    let door = g.D.Door.record_of c.args.door.now in (
      [],
      [],
      subst (λ (s : ReaderModel). ReaderProgress c.args.plan.now c.args.number [] [] c.args.reader.now s door door c.args.log.now c.args.log.now) (sym c.in_default.ensures.err)
          (went-none c.args.plan.now c.args.number c.args.reader.now door c.args.log.now),
      refl,
    )

pub returns-then-not-make_offers-clause-went : goal.returns-then-not-make_offers-clause-went
returns-then-not-make_offers-clause-went g c =
    let made = c.make_offers.ensures.made in (
      _,
      _,
      went-piece c.args.plan.now c.configuration_of_plan.ensures.sends c.closed_as_read.ensures c.args.number c.args.piece.now c.args.moment made.0
          c.args.reader.now c.feed.new.self _ (g.D.Door.record_of c.args.door.now) _ c.args.log.now c.piece.new.self
          c.requires.nothing_waits c.requires.open c.in-Ok.ensures.represents c.piece.ensures made.1,
      refl,
    )

pub returns-then-is_closed-clause-went : goal.returns-then-is_closed-clause-went
returns-then-is_closed-clause-went g c =
    let made = c.make_offers.ensures.made in (
      _,
      _,
      went-piece c.args.plan.now c.configuration_of_plan.ensures.sends c.closed_as_read.ensures c.args.number c.args.piece.now c.args.moment made.0
          c.args.reader.now c.feed.new.self _ (g.D.Door.record_of c.args.door.now) _ c.args.log.now c.piece.new.self
          c.requires.nothing_waits c.requires.open c.in-Ok.ensures.represents c.piece.ensures made.1,
      refl,
    )

pub returns-clause-went : goal.returns-clause-went
returns-clause-went g c =
    let made = c.make_offers.ensures.made in (
      _,
      _,
      went-piece c.args.plan.now c.configuration_of_plan.ensures.sends c.closed_as_read.ensures c.args.number c.args.piece.now c.args.moment made.0
          c.args.reader.now c.feed.new.self _ (g.D.Door.record_of c.args.door.now) _ c.args.log.now c.piece.new.self
          c.requires.nothing_waits c.requires.open c.in-Ok.ensures.represents c.piece.ensures made.1,
      refl,
    )

pub returns-in_default-clause-waits : goal.returns-in_default-clause-waits
returns-in_default-clause-waits g c =
    none-waits (IsRefusedBy g.D.Door.may_refuse c.args.number) c.args.plan.now.destinations _ (ap (λ (r : ReaderModel). r.waiting) c.in_default.ensures.err ∙ c.requires.nothing_waits)

pub returns-then-not-make_offers-clause-waits : goal.returns-then-not-make_offers-clause-waits
returns-then-not-make_offers-clause-waits g c = waits-among (IsRefusedBy g.D.Door.may_refuse c.args.number) _ c.args.plan.now.destinations _ (c.destinations.ensures ∙ ap (λ (p : Plan). p.destinations) c.feed.ensures.plan) c.make_offers.ensures.waits

pub returns-then-is_closed-clause-waits : goal.returns-then-is_closed-clause-waits
returns-then-is_closed-clause-waits g c = waits-among (IsRefusedBy g.D.Door.may_refuse c.args.number) _ c.args.plan.now.destinations _ (c.destinations.ensures ∙ ap (λ (p : Plan). p.destinations) c.feed.ensures.plan) c.make_offers.ensures.waits

pub returns-clause-waits : goal.returns-clause-waits
returns-clause-waits g c = waits-among (IsRefusedBy g.D.Door.may_refuse c.args.number) _ c.args.plan.now.destinations _ (c.destinations.ensures ∙ ap (λ (p : Plan). p.destinations) c.feed.ensures.plan) c.make_offers.ensures.waits
