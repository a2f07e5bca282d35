use Rattle.std.proofs.Common.{◌≡◌, ◌+◌, ◌++◌, ◌∙◌, List, length, map, sym, ap, subst, arith}
use Rattle.std.specs.Vec.Iter.{into_iter_items}
use Rattle.mio_loops.specs.WriterLog.{WriterLog}
use Rattle.mio_loops.specs.LeftWriter.{IsGivenEach}
use Rattle.mio_loops.specs.OutgoingState.{OutgoingState}
use Rattle.mio_loops.proofs.WriteLoopLemmas.{log-moved, all-moved, given-first, given-none}
use Rattle.mio_loops.proofs.write_loop.WriteLoop.release.Goals as goal

pub loop-destination-init : goal.loop-destination-init
loop-destination-init g c =
    let inside = c.self.inside in
    let all = into_iter_items c.into_iter-destination-iterator.result in
    let empty : inside.logs.len ≡ 0 = inside.logs.ok.0 ∙ ap length c.self.invariant.1 in
    let room = c.self.invariant.2 in
    let few = c.self.invariant.0 in
    let gives : all ≡ inside.destinations.items = c.into_iter-destination-iterator.ensures.into_iter_gives.0 in
    let as_many = ap length gives in
    record {
      logs = ap (λ (l : List WriterLog). l ++ map (λ o. o.log) all) c.self.invariant.1;
      room = omega (arith, empty, room, as_many);
      left = λ after given. given;
      few = omega (arith, as_many, few);
      count = c.into_iter-destination-iterator.result.rest.ok.0;
    }

pub push_reserved-requires : goal.push_reserved-requires
push_reserved-requires g c =
    let room = c.loop-destination.invariant.room in
    let more = ap length c.in-Some.ensures.steps.0 in
    omega (arith, room, more)

pub loop-destination-smaller : goal.loop-destination-smaller
loop-destination-smaller g c = let less = c.in-Some.ensures.steps.1 in omega (arith, less)

pub loop-destination-preserved : goal.loop-destination-preserved
loop-destination-preserved g c =
    let before = c.loop-destination.invariant in
    let room = before.room in
    let few = before.few in
    let step = c.in-Some.ensures.steps in
    let more = ap length step.0 in
    let longer = c.push_reserved.ensures.len in
    let capacity = c.push_reserved.ensures.capacity in
    let next : c.saturating_add-dest.result ≡ c.loop-destination.dest + 1 = omega (arith, c.saturating_add-dest.ensures, few, more) in
    record {
      logs = log-moved (λ o. o.log) c.loop-destination.logs.items c.push_reserved.new.self.items _ c.in-Some.destination (into_iter_items c.loop-destination.destination-iterator) (into_iter_items c.next.new.self) c.into_parts-log.result.0
          before.logs step.0 c.into_parts-log.ensures.log c.push_reserved.ensures.items;
      room = omega (arith, room, more, longer, capacity);
      left = λ after given. before.left after
          (given-first g.T.LeftTaker.takes c.loop-destination.dest c.saturating_add-dest.result c.in-Some.destination
          (into_iter_items c.loop-destination.destination-iterator) (into_iter_items c.next.new.self) c.into_parts-log.result.1
          c.loop-destination.taker c.take_left.new.self after step.0 next c.into_parts-log.ensures.left c.take_left.ensures given);
      few = omega (arith, few, more, next);
      count = c.next.new.self.rest.ok.0;
    }

pub returns-clause-logs : goal.returns-clause-logs
returns-clause-logs g c =
    let before = c.loop-destination.invariant in
    let none = sym before.count ∙ c.in-None.ensures.steps.0 in
    let all = into_iter_items c.into_iter-destination-iterator.result in
    let gives : all ≡ c.self.inside.destinations.items = c.into_iter-destination-iterator.ensures.into_iter_gives.0 in
    all-moved (λ o. o.log) c.loop-destination.logs.items (into_iter_items c.loop-destination.destination-iterator) all before.logs none
    ∙ ap (λ (os : List (OutgoingState g.row.W.Denot)). map (λ o. o.log) os) (gives ∙ c.self.view_is)

pub returns-clause-left : goal.returns-clause-left
returns-clause-left g c =
    let before = c.loop-destination.invariant in
    let none = sym before.count ∙ c.in-None.ensures.steps.0 in
    let all = into_iter_items c.into_iter-destination-iterator.result in
    let gives : all ≡ c.self.inside.destinations.items = c.into_iter-destination-iterator.ensures.into_iter_gives.0 in
    subst (λ (os : List (OutgoingState g.row.W.Denot)). IsGivenEach g.T.LeftTaker.takes 0 os c.args.taker.now c.loop-destination.taker)
    (gives ∙ c.self.view_is)
    (before.left c.loop-destination.taker
    (given-none g.T.LeftTaker.takes c.loop-destination.dest (into_iter_items c.loop-destination.destination-iterator) c.loop-destination.taker none))
