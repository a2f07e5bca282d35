use Rattle.std.proofs.Common.{◌∙◌, ◌≤◌, length, refl, subst}
use Rattle.queue_records.specs.Offers.{IsRefusedBy}
use Rattle.router.specs.Plan.{Plan}
use Rattle.receivers.proofs.MomentLemmas.{no-turns, more-turns}
use Rattle.receivers.proofs.stream_receiver.take_turns.Goals as goal

pub loop-init : goal.loop-init
loop-init g c = record {
  went = no-turns (IsRefusedBy g.D.Door.may_refuse) (g.T.TimeSource.may_give c.args.times.now) c.args.receiver.now.plan c.args.reads.now (g.D.Door.record_of c.args.receiver.now.door);
  dests = c.requires.dests;
  plan = refl;
}

pub returns-in-Err-clause-went : goal.returns-in-Err-clause-went
returns-in-Err-clause-went g c =
    let held = c.loop.invariant in
    let more = c.take_turn.ensures.went in
    more-turns (IsRefusedBy g.D.Door.may_refuse) (g.T.TimeSource.may_give c.args.times.now) c.args.receiver.now.plan c.loop.receiver.plan c.args.reads.now c.loop.reads c.take_turn.new.reads _ _ _ held.plan held.went more

pub returns-then-is_set-clause-went : goal.returns-then-is_set-clause-went
returns-then-is_set-clause-went g c =
    let held = c.loop.invariant in
    let more = c.take_turn.ensures.went in
    more-turns (IsRefusedBy g.D.Door.may_refuse) (g.T.TimeSource.may_give c.args.times.now) c.args.receiver.now.plan c.loop.receiver.plan c.args.reads.now c.loop.reads c.take_turn.new.reads _ _ _ held.plan held.went more

pub loop-preserved : goal.loop-preserved
loop-preserved g c =
    let held = c.loop.invariant in
    let step = c.take_turn.ensures in
    let more = step.went in
    record {
      went = more-turns (IsRefusedBy g.D.Door.may_refuse) (g.T.TimeSource.may_give c.args.times.now) c.args.receiver.now.plan c.loop.receiver.plan c.args.reads.now c.loop.reads c.take_turn.new.reads _ _ _ held.plan held.went more;
      dests = subst (λ (p : Plan). p.destinations ≤ length (g.D.Door.record_of c.take_turn.new.receiver.door).totals) held.plan step.dests;
      plan = step.plan ∙ held.plan;
    }
