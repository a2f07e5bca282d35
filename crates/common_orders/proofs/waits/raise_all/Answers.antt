use Rattle.std.proofs.Common.{◌<◌, ℕ, length, slice_index_or, arith}
use Rattle.std.proofs.lemmas.Grind.{common_steps}
use Rattle.common_orders.proofs.Searching.{times_one_more, times_take}
use Rattle.common_orders.proofs.waits.raise_all.Goals as goal

pub raise-requires : goal.raise-requires
raise-requires c =
    let i : ℕ = c.loop-place.place in
    let x : ℕ = slice_index_or c.args.numbers.now i 0 in
    let in_list : i < length c.args.numbers.now = grind (arith, common_steps) in
    let all = times_take x c.args.numbers.now i in
    grind (arith, common_steps, c.requires x, c.loop-place.invariant x)

pub loop-place-preserved : goal.loop-place-preserved
loop-place-preserved c =
    let i : ℕ = c.loop-place.place in
    let in_list : i < length c.args.numbers.now = grind (arith, common_steps) in
    λ y. let pushed = times_one_more y c.args.numbers.now i in_list in grind (arith, common_steps, c.loop-place.invariant y, c.in_ok-raise.ensures y)
