use Rattle.std.proofs.Common.{sym}
use Rattle.std.proofs.lemmas.Result.{IfOk-weaker, IfErr-weaker}
use Rattle.relay_run.proofs.RunEndings.{err-is, ok-is, on_ok-is, fails-at_start, fails-early, fails-closing, writes-both, opens-as, stopped-weaker, never-followed}
use Rattle.relay_run.proofs.run_command.run_relay.Goals as goal

-- it could not be opened
pub returns-in-Err : goal.returns-in-Err
returns-in-Err g c = record { stopped = tt; followed = tt; err = fails-at_start _ _ _ c.in-Err.ensures }

-- its threads did not begin, or what they recorded is not known
pub returns-in-Err-left : goal.returns-in-Err-left
returns-in-Err-left g c =
    record {
      stopped = tt;
      followed = tt;
      err = rw (sym c.of-port.ensures) (fails-early _ _ _ _ (err-is _ _ _ c.in-Err-left.is c.run_until_ended-left.ensures.err));
    }

-- another one follows
pub returns-in-Some : goal.returns-in-Some
returns-in-Some g c =
    record {
      stopped = tt;
      followed = (opens-as _ _ _ _ c.of-port.ensures (on_ok-is _ _ _ c.in-Ok-left.is c.run_until_ended-left.ensures.ok), c.follow-following.ensures);
      err = tt;
    }

-- it was stopped
pub returns-in-None : goal.returns-in-None
returns-in-None g c =
    let opened = opens-as _ _ _ _ c.of-port.ensures (on_ok-is _ _ _ c.in-Ok-left.is c.run_until_ended-left.ensures.ok) in
    let thread = ok-is _ _ _ c.in-Ok-left.is c.run_until_ended-left.ensures.fault in
    record {
      stopped = IfOk-weaker c.stopped.result _ _ (λ e is. stopped-weaker e _ _ (λ status ends.
          let closes = ok-is _ _ _ ends c.stop.ensures.ok in
          record {
            settled = closes.0;
            wrote = writes-both _ _ _ _ closes.0 opened closes.1;
            says = closes.2;
          }) is) c.stopped.ensures.stopped;
      followed = IfOk-weaker c.stopped.result _ _ (λ e is. never-followed e _ is) c.stopped.ensures.never_followed;
      err = IfErr-weaker c.stopped.result _ _ (λ fault ends.
          let closes = err-is _ _ _ ends c.stop.ensures.err in
          fails-closing _ _ _ _ closes.0 _ fault opened thread closes.1) c.stopped.ensures.err;
    }
