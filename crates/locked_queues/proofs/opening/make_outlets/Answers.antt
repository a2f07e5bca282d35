use Rattle.std.proofs.Common.{◌≡◌, ◌+◌, ◌++◌, ◌∷◌, [], sym, ap, ◌∙◌, arith}
use Rattle.std.specs.List.{range_with_len}
use Rattle.queue_records.proofs.RecordsMet.{range_one_more}
use Rattle.locked_queues.proofs.opening.make_outlets.Goals as goal

pub loop-seat-preserved : goal.loop-seat-preserved
loop-seat-preserved g c =
    let n = c.loop-seat.seat in
    let from_zero : n ≡ 0 + n = omega arith in
    record {
      outlets = c.push_reserved.ensures.items ∙ (ap (λ x. c.loop-seat.outlets.items ++ x ∷ []) c.of.ensures ∙ (ap (λ r. r ++ n ∷ []) c.loop-seat.invariant.outlets ∙ (ap (λ k. range_with_len 0 n ++ k ∷ []) from_zero ∙ sym (range_one_more 0 n))));
      count = c.push_reserved.ensures.len ∙ ap (λ k. k + 1) c.loop-seat.invariant.count;
      room = c.push_reserved.ensures.capacity ∙ c.loop-seat.invariant.room;
      first = c.none-shares.ensures.first.0 ∙ sym c.requires.first;
    }
