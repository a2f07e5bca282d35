use Rattle.std.proofs.Common.{◌+◌, ap, ◌∙◌, arith}
use Rattle.std.proofs.lemmas.Grind.{common_steps}
use Rattle.std.proofs.lemmas.List.{map-append}
use Rattle.queue_records.proofs.Places.{begun_more}
use Rattle.locked_queues.proofs.copies.copy_all.Goals as goal

pub loop-dest-preserved : goal.loop-dest-preserved
loop-dest-preserved g c = record {
  begun = rw (c.push_reserved.ensures.items, c.push_reserved-in-loop-dest.ensures.items, map-append) (begun_more _ _ _ _ _ _ c.loop-dest.invariant.begun c.in_ok-copied.ensures);
  counts = c.push_reserved.ensures.len ∙ ap (λ k. k + 1) c.loop-dest.invariant.counts;
  histories = c.push_reserved-in-loop-dest.ensures.len ∙ ap (λ k. k + 1) c.loop-dest.invariant.histories;
  room = c.push_reserved.ensures.capacity ∙ c.loop-dest.invariant.room;
  histories_room = c.push_reserved-in-loop-dest.ensures.capacity ∙ c.loop-dest.invariant.histories_room;
  locks = grind (arith, common_steps);
}
