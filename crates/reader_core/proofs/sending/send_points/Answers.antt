use Rattle.std.proofs.Common.{◌≡◌, ◌∷◌, Option, subst, ◌∙◌}
use Rattle.std.specs.Vec.Iter.{drain_items, drain_steps}
use Rattle.line_text.specs.Datapoint.{Datapoint}
use Rattle.line_text.proofs.LineLemmas.{bool_count}
use Rattle.reader_core.proofs.PointsSent.{waits_more, dropped_more}
use Rattle.reader_core.proofs.sending.send_points.Goals as goal

pub loop-point-preserved : goal.loop-point-preserved
loop-point-preserved c =
    let held = c.loop-point.invariant in
    let sent = c.in_ok-is_dropped.ensures in
    let next : drain_items c.loop-point.point-iterator ≡ c.in-Some.point ∷ drain_items c.next.new.self =
    (subst (λ (r : Option Datapoint). drain_steps c.loop-point.point-iterator r c.next.new.self) c.in-Some.is c.next.ensures.steps).0 in
    record {
      waiting = waits_more _ _ _ _ _ _ _ _ held.plan next sent.waiting held.waiting;
      dropped = dropped_more _ _ _ _ _ _ _ _ _ held.plan next (c.from-dropped.ensures ∙ bool_count c.in_ok-is_dropped.is_dropped) sent.dropped held.dropped;
      plan = sent.plan ∙ held.plan;
      can_next = held.can_next;
      is_finite = held.is_finite;
    }
