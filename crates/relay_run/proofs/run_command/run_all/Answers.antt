use Rattle.std.proofs.Common.{refl}
use Rattle.relay_run.proofs.RunEndings.{begun-next, ends-last, fails-last, stopped-is, followed-is}
use Rattle.relay_run.proofs.run_command.run_all.Goals as goal

-- no run was before the first
pub loop-init : goal.loop-init
loop-init g c = record { begun = rw c.none.ensures refl; can_next = tt; is_finite = tt }

-- the last run was stopped
pub returns-in-Ok-Stopped-clause-ok : goal.returns-in-Ok-Stopped-clause-ok
returns-in-Ok-Stopped-clause-ok g c =
    ends-last _ _ _ _ c.in-Ok-Stopped.status c.loop.invariant.begun (stopped-is _ _ _ c.in-Ok-Stopped.field-0-is c.in-Ok-Stopped.ensures.stopped)

-- another one follows
pub loop-preserved : goal.loop-preserved
loop-preserved g c =
    let followed = followed-is _ _ _ c.in-Ok-Followed.field-0-is c.in-Ok-Followed.ensures.followed in
    record {
      begun = rw followed.1 (begun-next _ _ _ _ c.loop.invariant.begun followed.0);
      can_next = tt;
      is_finite = tt;
    }

-- a run failed
pub returns-in-Err-clause-err : goal.returns-in-Err-clause-err
returns-in-Err-clause-err g c = fails-last _ _ _ _ _ c.loop.invariant.begun c.in-Err.ensures.err
