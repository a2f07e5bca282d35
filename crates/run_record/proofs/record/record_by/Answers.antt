use Rattle.std.proofs.Common.{◌≡◌, ℕ, List, Vec, Global, refl, subst}
use Rattle.std.specs.String.{string_bytes}
use Rattle.router.specs.Plan.{Plan}
use Rattle.run_record.specs.PartEvents.{PartsOfRun, lists_of}
use Rattle.dest_queue.specs.declared.step.Step.{Step}
use Rattle.run_record.specs.QueueSteps.{steps_numbered, AreHistories}
use Rattle.run_record.specs.RunScript.{IsScriptOfRun}
use Rattle.run_record.proofs.record.record_by.Goals as goal

pub returns : goal.returns
returns c =
    let parts : PartsOfRun = record {
      kinds = c.as_slice-3.result.now;
      fed = lists_of c.as_slice-4.result.now;
      written = lists_of c.as_slice-5.result.now;
      steps = steps_numbered c.as_slice-6.result.now c.as_slice-7.result.now;
      counts = c.as_slice-8.result.now;
    } in
    let plan : c.in-Ok.plan ≡ c.args.run.now.configuration.now.plan = cc (c.in-Ok.ensures.plan) in
    let histories : c.as_slice-6.result.now ≡ c.args.settled.now.histories.items = cc (c.as_slice-6.ensures.value) in
    let order : c.as_slice-7.result.now ≡ c.args.settled.now.order.items = cc (c.as_slice-7.ensures.value) in
    let first : c.as_slice.result.now ≡ c.args.settled.now.histories.items = cc (c.as_slice.ensures.value) in
    let second : c.as_slice-2.result.now ≡ c.args.settled.now.order.items = cc (c.as_slice-2.ensures.value) in
    let whole : AreHistories c.args.settled.now.histories.items (steps_numbered c.args.settled.now.histories.items c.args.settled.now.order.items) =
    subst (λ (h : List (Vec Step Global)). AreHistories h (steps_numbered h c.args.settled.now.order.items)) first
    (subst (λ (o : List ℕ). AreHistories c.as_slice.result.now (steps_numbered c.as_slice.result.now o)) second (c.in_ok-is_order_of.ensures c.if-not-branch.false)) in
    let counts : c.as_slice-8.result.now ≡ c.args.settled.now.counts.items = cc (c.as_slice-8.ensures.value) in (
      c.args.settled.now,
      c.requires.settled,
      record {
        parts = parts;
        has_steps = rw (histories, order) refl;
        has_histories = rw (histories, order) whole;
        has_counts = counts;
        is = subst (λ (p : Plan). IsScriptOfRun p c.args.run.now.shape.size c.args.run.now.shape.limit parts (string_bytes c.in_ok-script_of_run.field-0)) plan c.in_ok-script_of_run.ensures;
      },
    )
