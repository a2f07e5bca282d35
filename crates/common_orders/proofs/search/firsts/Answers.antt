use Rattle.std.proofs.Common.{◌≡◌, ◌<◌, ◌+◌, ℕ, List, [], map, take, length, slice_index_or, sym, subst, arith}
use Rattle.std.proofs.lemmas.Grind.{common_steps}
use Rattle.std.proofs.lemmas.Bool.Decides.{nat_tests}
use Rattle.common_orders.specs.OrderSearch.{begins, times_first}
use Rattle.common_orders.proofs.Searching.{take_one_more, first_push, first_or_behind}
use Rattle.common_orders.proofs.search.firsts.Goals as goal

pub loop-place-preserved : goal.loop-place-preserved
loop-place-preserved c =
    let lists : List (List ℕ) = map (λ list. list.now) c.args.left.now in
    let i : ℕ = c.loop-place.place in
    let in_lists : i < length lists = grind (arith, common_steps) in
    let more = take_one_more lists i [] in_lists in
    record {
      first = λ x there. grind (arith, common_steps, nat_tests, c.requires x, c.in_ok-add_first.ensures x, c.loop-place.invariant.first x);
      all = λ x free there.
          let pushed : times_first x (take (i + 1) lists) ≡ times_first x (take i lists) + begins x (slice_index_or lists i []) = rw more (first_push x (slice_index_or lists i []) (take i lists)) in
          grind (arith, common_steps, nat_tests, c.requires x, c.in_ok-add_first.ensures x, c.loop-place.invariant.all x free);
    }

pub returns : goal.returns
returns c =
    let lists : List (List ℕ) = map (λ list. list.now) c.args.left.now in
    let whole : take c.loop-place.place lists ≡ lists = grind (arith, common_steps) in
    record {
      first = c.loop-place.invariant.first;
      all = λ x next. c.loop-place.invariant.all x next.first (subst (λ ls. 0 < times_first x ls) (sym whole) (omega (arith, next.held, next.first, first_or_behind x lists)));
    }
