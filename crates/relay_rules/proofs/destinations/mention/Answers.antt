use Rattle.std.proofs.Common.{◌∙◌}
use Rattle.relay_rules.proofs.destinations.mention.Goals as goal
use Rattle.relay_rules.proofs.destinations.mention.Goals.{then-not-contains+in_ok-push, else-not-contains}
use Rattle.relay_rules.proofs.Mentions.{with_more-drop}

pub loop-id-preserved : goal.loop-id-preserved
loop-id-preserved c =
    let has = rw c.deref.ensures.value at c.contains.ensures.value in
    let step = with_more-drop c.loop-id.route.items c.args.ids.now c.loop-id.id-index (record { 0 = 0 }) c.contains.result c.loop-id-test.true has in
    elim c.if-not-contains.branch [
      | then-not-contains+in_ok-push w ↦ rw (w.route-is, w.in_ok-push.ensures.items) ((rw w.if-not-contains.true at step) ∙ c.loop-id.invariant)
      | else-not-contains w ↦ rw w.route-is ((rw w.if-not-contains.false at step) ∙ c.loop-id.invariant)
    ]
