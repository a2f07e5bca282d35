use Rattle.std.proofs.Common.{◌≡◌, ◌<◌, ℕ, List, [], map, take, length, slice_index_or, sym, subst, arith}
use Rattle.std.proofs.lemmas.Grind.{common_steps}
use Rattle.common_orders.specs.OrderSearch.{AreAllEmpty}
use Rattle.common_orders.proofs.Searching.{take_one_more, empty_push, empty_at}
use Rattle.common_orders.proofs.search.Search.is_done.Goals as goal

pub returns-then-not-is_empty : goal.returns-then-not-is_empty
returns-then-not-is_empty c =
    let lists : List (List ℕ) = map (λ list. list.now) c.args.self.now.left.items in
    (λ reported. grind (arith, reported), λ none. let here = empty_at c.loop-place.place lists none in grind (arith, common_steps))

pub loop-place-preserved : goal.loop-place-preserved
loop-place-preserved c =
    let lists : List (List ℕ) = map (λ list. list.now) c.args.self.now.left.items in
    let i : ℕ = c.loop-place.place in
    let in_lists : i < length lists = grind (arith, common_steps) in
    let here : slice_index_or lists i [] ≡ [] = grind (arith, common_steps) in
    subst AreAllEmpty (sym (take_one_more lists i [] in_lists)) (empty_push (slice_index_or lists i []) (take i lists) c.loop-place.invariant here)
