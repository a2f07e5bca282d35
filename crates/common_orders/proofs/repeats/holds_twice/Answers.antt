use Rattle.std.proofs.Common.{◌+◌, ◌<◌, ℕ, take, nat_lt, length, slice_index_or, ap, ◌∙◌, sym, arith}
use Rattle.std.proofs.lemmas.Grind.{common_steps}
use Rattle.std.proofs.lemmas.Bool.Decides.{nat_tests}
use Rattle.common_orders.specs.CommonOrder.{times}
use Rattle.common_orders.proofs.Searching.{take_one_more, times_push, times_take, seen_push}
use Rattle.common_orders.proofs.repeats.holds_twice.Goals as goal

pub returns-then-not-is_new-clause-twice : goal.returns-then-not-is_new-clause-twice
returns-then-not-is_new-clause-twice c =
    let i : ℕ = c.loop-place.place in
    let x : ℕ = slice_index_or c.args.numbers.now i 0 in
    let in_list : i < length c.args.numbers.now = grind (arith, common_steps) in
    let there : 0 < times x (take i c.args.numbers.now) = grind (arith, common_steps, nat_tests, c.loop-place.invariant.seen x) in
    let more = take_one_more c.args.numbers.now i 0 in_list in
    let pushed = times_push x x (take i c.args.numbers.now) in
    let all = times_take x c.args.numbers.now (i + 1) in
    (x, grind (arith, common_steps, nat_tests))

pub loop-place-preserved : goal.loop-place-preserved
loop-place-preserved c =
    let i : ℕ = c.loop-place.place in
    let x : ℕ = slice_index_or c.args.numbers.now i 0 in
    let in_list : i < length c.args.numbers.now = grind (arith, common_steps) in
    let more = take_one_more c.args.numbers.now i 0 in_list in
    record {
      seen = λ y. c.in-Ok.ensures.updates.0 y ∙ (seen_push y x (take i c.args.numbers.now) _ (c.loop-place.invariant.seen y) ∙ ap (λ xs. nat_lt 0 (times y xs)) (sym more));
      once = λ y. let pushed = times_push y x (take i c.args.numbers.now) in grind (arith, common_steps, nat_tests, c.loop-place.invariant.seen y, c.loop-place.invariant.once y);
    }
