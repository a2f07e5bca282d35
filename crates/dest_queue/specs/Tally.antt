-- What a tally says of a queue.
use Rattle.std.specs.Prelude.{ℕ, List}
use Rattle.line_text.specs.Datapoint.{Datapoint}
use Rattle.dest_queue.specs.Queue.{Queue}
use Rattle.dest_queue.specs.declared.counts.Counts.{Counts}
use Rattle.dest_queue.specs.declared.tally.Tally.{Tally}

-- the queue of these datapoints that counted this, after this many recorded steps
abbrev pub tallied_queue : List Datapoint → Tally → ℕ → Queue
tallied_queue points t recorded =
    record {
      points = points;
      offered = t.offered;
      kept = t.kept;
      dropped = t.dropped;
      taken = t.taken;
      next = t.next.items;
      recorded = recorded;
    }

-- the counts of a queue that counted this, holds this many datapoints and was sealed this often
abbrev pub tallied_counts : Tally → ℕ → ℕ → Counts
tallied_counts t queued seals =
    record {
      offered = t.offered;
      kept = t.kept;
      dropped = t.dropped;
      taken = t.taken;
      queued = queued;
      seals = seals;
    }
