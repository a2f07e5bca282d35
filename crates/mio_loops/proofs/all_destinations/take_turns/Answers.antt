use Rattle.std.proofs.Common.{◌<◌, ◌++◌, ◌∙◌, [], ◌∷◌, ℕ, Bool, length, get_or, refl, sym, subst, arith, lt_of_lt_of_le}
use Rattle.queue_records.specs.Takes.{IsHandedBy}
use Rattle.mio_loops.specs.WriteTurn.{TurnAt, IsTurn}
use Rattle.mio_loops.specs.WriteLoop.{is_among}
use Rattle.mio_loops.specs.declared.write_report.WriteReport.{WriteReport}
use Rattle.mio_loops.proofs.TurnsLemmas.{TurnsSoFar, none-so_far, one_more, served-few, failed-few, all-turned, up-here, ups-more}
use Rattle.mio_loops.proofs.all_destinations.take_turns.Goals as goal

pub take_turn-requires : goal.take_turn-requires
take_turn-requires g c =
    let loop = c.loop-dest in
    let within : loop.dest < length loop.destinations = omega arith in
    record {
      owned = λ up. loop.invariant.owners loop.dest
          ∙ c.requires.owned loop.dest (loop.invariant.ups loop.dest (up-here loop.destinations loop.dest _ within up));
    }

pub loop-dest-preserved : goal.loop-dest-preserved
loop-dest-preserved g c =
    let loop = c.loop-dest in
    let so_far = loop.invariant.so_far.1 in
    let within : loop.dest < length loop.destinations = omega arith in
    let lengths = so_far.lengths in
    let few = c.requires.few in
    let low : loop.dest < 64 = omega arith in
    let t : TurnAt g.row.W.Denot = record {
      old = get_or loop.destinations loop.dest c.index-destinations-dest.result;
      new = c.take_turn.new.self;
      answer = c.take_turn.result;
    } in
    let turn = subst (λ (ready : Bool). IsTurn g.W.Write.contents (IsHandedBy g.S.Supply.record_of g.S.Supply.may_hand) loop.dest ready t (g.S.Supply.record_of loop.supply) (g.S.Supply.record_of c.take_turn.new.supply))
    (c.marks_of-marks.ensures loop.dest low) c.take_turn.ensures.turn in
    record {
      so_far = (
        loop.invariant.so_far.0 ++ t ∷ [],
        one_more g.W.Write.contents (IsHandedBy g.S.Supply.record_of g.S.Supply.may_hand) (is_among c.args.ready.now) loop.invariant.so_far.0 _ _ loop.dest _ _ _ _ _ c.index-destinations-dest.result c.take_turn.new.self t
            refl refl so_far within turn c.count.ensures,
      );
      ups = ups-more _ loop.destinations loop.dest c.index-destinations-dest.result _ within c.take_turn.ensures.ups loop.invariant.ups;
      owners = λ dest. c.take_turn.ensures.owners dest ∙ loop.invariant.owners dest;
    }

pub loop-dest-init : goal.loop-dest-init
loop-dest-init g c =
    record {
      so_far = (
        [],
        subst (λ (report : WriteReport). TurnsSoFar g.W.Write.contents (IsHandedBy g.S.Supply.record_of g.S.Supply.may_hand) (is_among c.args.ready.now) [] c.args.destinations.now c.args.destinations.now 0 (g.S.Supply.record_of c.args.supply.now) (g.S.Supply.record_of c.args.supply.now) report)
            (sym c.new-report.ensures) (none-so_far g.W.Write.contents (IsHandedBy g.S.Supply.record_of g.S.Supply.may_hand) (is_among c.args.ready.now) c.args.destinations.now (g.S.Supply.record_of c.args.supply.now)),
      );
      ups = λ dest up. up;
      owners = λ dest. refl;
    }

pub bounds-destinations-dest : goal.bounds-destinations-dest
bounds-destinations-dest g c = subst (λ (n : ℕ). c.loop-dest.dest < n) (sym c.loop-dest.auto.destinations) c.loop-dest-test.true

pub bounds-marks-dest : goal.bounds-marks-dest
bounds-marks-dest g c = lt_of_lt_of_le c.loop-dest-test.true c.requires.few

pub count-requires-clause-served : goal.count-requires-clause-served
count-requires-clause-served g c =
    served-few g.W.Write.contents (IsHandedBy g.S.Supply.record_of g.S.Supply.may_hand) _ c.loop-dest.invariant.so_far.0 _ _ c.loop-dest.dest _ _ c.loop-dest.report c.loop-dest.invariant.so_far.1 (lt_of_lt_of_le c.loop-dest-test.true c.requires.few)

pub count-requires-clause-failed : goal.count-requires-clause-failed
count-requires-clause-failed g c =
    failed-few g.W.Write.contents (IsHandedBy g.S.Supply.record_of g.S.Supply.may_hand) _ c.loop-dest.invariant.so_far.0 _ _ c.loop-dest.dest _ _ c.loop-dest.report c.loop-dest.invariant.so_far.1 (lt_of_lt_of_le c.loop-dest-test.true c.requires.few)

pub loop-dest-smaller : goal.loop-dest-smaller
loop-dest-smaller g c = let more = c.loop-dest-test.true in omega (arith, more)

pub returns-clause-turn : goal.returns-clause-turn
returns-clause-turn g c =
    let so_far = c.loop-dest.invariant.so_far in (
      so_far.0,
      all-turned g.W.Write.contents (IsHandedBy g.S.Supply.record_of g.S.Supply.may_hand) _ so_far.0 c.args.destinations.now c.loop-dest.destinations c.loop-dest.dest _ _ c.loop-dest.report so_far.1 c.loop-dest-test.false,
      so_far.1.reported,
    )

pub returns-clause-ups : goal.returns-clause-ups
returns-clause-ups g c = c.loop-dest.invariant.ups

pub returns-clause-owners : goal.returns-clause-owners
returns-clause-owners g c = c.loop-dest.invariant.owners
