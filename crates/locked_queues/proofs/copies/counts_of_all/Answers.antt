use Rattle.std.proofs.Common.{◌+◌, ap, ◌∙◌, arith}
use Rattle.std.proofs.lemmas.Grind.{common_steps}
use Rattle.locked_queues.proofs.copies.counts_of_all.Goals as goal

pub loop-dest-preserved : goal.loop-dest-preserved
loop-dest-preserved g c = record {
  counts = c.push_reserved.ensures.len ∙ ap (λ k. k + 1) c.loop-dest.invariant.counts;
  room = c.push_reserved.ensures.capacity ∙ c.loop-dest.invariant.room;
  locks = grind (arith, common_steps);
}
