use Rattle.std.proofs.Common.{◌≡◌, ◌<◌, ℕ, List, [], map, length, slice_index_or, refl, arith}
use Rattle.std.proofs.lemmas.Grind.{common_steps}
use Rattle.std.proofs.lemmas.List.{map-append}
use Rattle.common_orders.proofs.Searching.{take_one_more}
use Rattle.common_orders.proofs.search.slices.Goals as goal

pub loop-place-preserved : goal.loop-place-preserved
loop-place-preserved c =
    let lists : List (List ℕ) = map (λ list. list.items) c.args.lists.now in
    let i : ℕ = c.loop-place.place in
    let in_lists : i < length lists = grind (arith, common_steps) in
    let here : c.as_slice.result.now ≡ slice_index_or lists i [] = grind (arith, common_steps) in
    let more = take_one_more lists i [] in_lists in
    let left = c.loop-place.invariant.left in
    record {
      left = rw (c.push_reserved.ensures.items, map-append, left, here, more) refl;
      count = grind (arith, common_steps);
      room = grind (arith, common_steps);
    }
