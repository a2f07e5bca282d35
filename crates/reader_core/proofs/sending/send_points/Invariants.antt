use Rattle.std.proofs.Common.{◌≡◌, ◌+◌, ◌++◌}
use Rattle.std.specs.Vec.Iter.{drain_items}
use Rattle.reader_core.specs.Offers.{offers_by, dropped_by}
use Rattle.reader_core.proofs.sending.send_points.Given as goal

-- what the datapoints so far became waits behind the others, and those that are left become the rest
abbrev pub invariant-loop-point : goal.invariant-loop-point
invariant-loop-point l =
    record {
      waiting : l.waiting.items ++ offers_by l.fn.plan (drain_items l.point-iterator)
          ≡ l.fn.waiting.items ++ offers_by l.fn.plan (drain_items l.initial.point-iterator);
      dropped : l.dropped + dropped_by l.fn.plan (drain_items l.point-iterator)
          ≡ dropped_by l.fn.plan (drain_items l.initial.point-iterator);
      plan : l.plan ≡ l.fn.plan;
      can_next : (goal.iterator-loop-point).can_next l.point-iterator;
      is_finite : (goal.iterator-loop-point).is_finite l.point-iterator;
    }
