use Rattle.handover.proofs.RestLemmas.{took-then}
use Rattle.handover.proofs.rest_connection.send_batches.Goals as goal

pub returns-then-not-is_idle-clause-took : goal.returns-then-not-is_idle-clause-took
returns-then-not-is_idle-clause-took g c = took-then _ _ _ _ _ _ c.loop.invariant.took c.send_batch-driven.ensures.took

pub loop-preserved : goal.loop-preserved
loop-preserved g c =
    record {
      up = c.send_batch-driven.ensures.up;
      took = took-then _ _ _ _ _ _ c.loop.invariant.took c.send_batch-driven.ensures.took;
    }
