use Rattle.std.proofs.Common.{◌+◌, ◌++◌, ◌∷◌, [], sym, ap, ◌∙◌, arith}
use Rattle.std.proofs.lemmas.Grind.{common_steps}
use Rattle.queue_records.proofs.RecordsMet.{range_one_more}
use Rattle.queue_records.proofs.order_lists.numbers_from.Goals as goal

pub loop-place-preserved : goal.loop-place-preserved
loop-place-preserved c = record {
  items = c.push_reserved.ensures.items ∙ (ap (λ r. r ++ (c.args.first + c.loop-place.place) ∷ []) c.loop-place.invariant.items ∙ sym (range_one_more c.args.first c.loop-place.place));
  numbers = grind (arith, common_steps);
  room = grind (arith, common_steps);
}
