use Rattle.std.proofs.Common.{rules, refl}
use Rattle.queue_records.specs.Takes.{IsHandedBy}
use Rattle.mio_loops.proofs.ServeLemmas.{handed-is}
use Rattle.mio_loops.proofs.StepsLemmas.{batch-leads}
use Rattle.mio_loops.proofs.write_serve.take_batch.Goals as goal

pub returns-then-taken-gt0-clause-took : goal.returns-then-taken-gt0-clause-took
returns-then-taken-gt0-clause-took g c =
    let take = c.take-taken.ensures in
    let wanted = c.wants_batch.ensures in (
      c.take-taken.new.hand.points,
      handed-is (IsHandedBy g.S.Supply.record_of g.S.Supply.may_hand) (g.S.Supply.record_of c.args.supply.now) c.args.dest.0 c.args.limit c.take-taken.new.hand.points (c.args.supply.now, refl, take.handed),
      λ reported. batch-leads c.args.dest.0 c.args.limit c.take-taken.result c.take-taken.new.hand.points _ _ _ _ _ _ reported
          take.count c.if-taken-gt0.true take.few (search rules) c.fill.ensures.step c.add.ensures take.taken,
    )
