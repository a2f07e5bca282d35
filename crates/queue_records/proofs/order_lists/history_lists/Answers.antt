use Rattle.std.proofs.Common.{◌≡◌, ◌<◌, ◌*◌, ◌++◌, ◌∷◌, [], length, map, take, sym, ap, ◌∙◌, arith}
use Rattle.std.proofs.lemmas.Grind.{common_steps}
use Rattle.std.proofs.lemmas.List.{map-append}
use Rattle.std.specs.List.{range_with_len}
use Rattle.std.specs.Prelude.{slice_get, slice_index_or, Some}
use Rattle.std.proofs.lemmas.Option.{slice_get-get_or}
use Rattle.dest_queue.specs.Queue.{most_steps}
use Rattle.dest_queue.specs.Step.{recorded_of}
use Rattle.dest_queue.specs.Numbered.{history_numbers}
use Rattle.queue_records.proofs.RecordsMet.{history_more}
use Rattle.queue_records.proofs.order_lists.history_lists.Goals as goal

pub loop-dest-preserved : goal.loop-dest-preserved
loop-dest-preserved c =
    let i = c.loop-dest.dest in
    let hs = c.args.histories.now in
    let h = c.index-histories-dest.result in
    let own = c.in_ok-numbers_from.field-0 in
    let within : i < length hs = grind (arith, common_steps) in
    let same : slice_index_or hs i h ≡ h = grind (arith, common_steps) in
    let at : slice_get hs i ≡ Some h = slice_get-get_or hs i h within ∙ ap Some same in
    let count : c.len.result ≡ length (map recorded_of h.items) = grind (arith, common_steps) in
    record {
      numbers =
          ap (map (λ list. list.items)) c.push_reserved.ensures.items
          ∙ (map-append (λ list. list.items) c.loop-dest.lists.items (own ∷ [])
          ∙ (ap (λ xs. xs ++ own.items ∷ []) c.loop-dest.invariant.numbers
          ∙ (ap (λ ns. history_numbers 0 (map (λ history. map recorded_of history.items) (take i hs)) ++ ns ∷ []) (c.in_ok-numbers_from.ensures ∙ ap (range_with_len (most_steps * i)) count)
          ∙ sym (history_more (λ history. map recorded_of history.items) hs h i within at))));
      lists = grind (arith, common_steps);
      room = grind (arith, common_steps);
    }
