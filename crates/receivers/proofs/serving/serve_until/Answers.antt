use Rattle.std.proofs.Common.{◌∙◌, ◌≤◌, length, refl, subst}
use Rattle.queue_records.specs.Offers.{IsRefusedBy}
use Rattle.router.specs.Plan.{Plan}
use Rattle.receivers.proofs.MomentLemmas.{no-turns, more-turns}
use Rattle.receivers.proofs.serving.serve_until.Goals as goal

pub loop-token-init : goal.loop-token-init
loop-token-init g c = record {
  went = λ may_give reported. no-turns (IsRefusedBy g.D.Door.may_refuse) may_give c.args.receiver.now.plan c.args.reads.now (g.D.Door.record_of c.args.receiver.now.door);
  dests = c.requires.dests;
  plan = refl;
}

pub loop-token-preserved : goal.loop-token-preserved
loop-token-preserved g c =
    let held = c.loop-token.invariant in
    let step = c.serve_or_list.ensures in
    record {
      went = λ may_give reported.
          more-turns (IsRefusedBy g.D.Door.may_refuse) may_give c.args.receiver.now.plan c.loop-token.receiver.plan c.args.reads.now c.loop-token.reads c.serve_or_list.new.reads _ _ _ held.plan (held.went may_give reported) (step.went may_give reported);
      dests = subst (λ (p : Plan). p.destinations ≤ length (g.D.Door.record_of c.serve_or_list.new.receiver.door).totals) held.plan step.dests;
      plan = step.plan ∙ held.plan;
    }
