use Rattle.std.proofs.Common.{◌<◌, ◌≤◌, ℕ, List, [], map, take, length, slice_index_or, arith}
use Rattle.std.proofs.lemmas.Grind.{common_steps}
use Rattle.common_orders.specs.CommonOrder.{times}
use Rattle.common_orders.specs.OrderSearch.{rest, times_behind}
use Rattle.common_orders.proofs.Searching.{behind_one_more, behind_once, behind_few}
use Rattle.common_orders.proofs.search.raise_rests.Goals as goal

pub raise_all-requires : goal.raise_all-requires
raise_all-requires c =
    let lists : List (List ℕ) = map (λ list. list.now) c.args.left.now in
    let i : ℕ = c.loop-place.place in
    let in_lists : i < length c.args.left.now = grind (arith, common_steps) in
    λ x.
    let few : times_behind x (take i lists) ≤ i = behind_few x i lists (λ k lt. c.requires.once k (omega (arith, lt, in_lists))) in
    let here : times x (rest (slice_index_or lists i [])) ≤ 1 = behind_once x (slice_index_or lists i []) (c.requires.once i in_lists) in
    grind (arith, common_steps, c.loop-place.invariant x)

pub loop-place-preserved : goal.loop-place-preserved
loop-place-preserved c =
    let lists : List (List ℕ) = map (λ list. list.now) c.args.left.now in
    let i : ℕ = c.loop-place.place in
    let in_lists : i < length lists = grind (arith, common_steps) in
    λ x. let pushed = behind_one_more x lists i in_lists in grind (arith, common_steps, c.loop-place.invariant x, c.in_ok-raise_all.ensures x)
