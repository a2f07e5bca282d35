use Rattle.std.proofs.Common.{◌≡◌, ◌<◌, ◌+◌, ◌++◌, ◌∷◌, ℕ, List, [], map, take, drop, length, slice_index_or, inl, inr, ap, sym, ◌∙◌, subst, arith}
use Rattle.std.proofs.lemmas.Grind.{common_steps}
use Rattle.std.proofs.lemmas.Bool.Decides.{eqb_tells}
use Rattle.common_orders.specs.CommonOrder.{times}
use Rattle.common_orders.specs.OrderSearch.{all_left, all_uncover, uncovers, all_without_first, times_behind, waits_at, without_first}
use Rattle.common_orders.proofs.Orderings.{index_map, same_yet, placed_more, uncovers_all}
use Rattle.common_orders.proofs.Searching.{take_one_more, uncovers_fits, uncovers_push, all_without_first_push, left_push, held_at}
use Rattle.common_orders.proofs.search.Search.place.Goals as goal

pub advance-requires : goal.advance-requires
advance-requires c =
    let lists : List (List ℕ) = map (λ list. list.now) c.args.self.now.left.items in
    let i : ℕ = c.loop-place.place in
    let in_code : i < length c.loop-place.self.left.items = grind (arith, common_steps) in
    let in_lists : i < length lists = grind (arith, common_steps) in
    let here : c.index_mut.result.now.now ≡ slice_index_or lists i []
    = ap (λ q. q.now) c.index_mut.ensures.value
    ∙ (sym (index_map (λ q. q.now) c.loop-place.self.left.items i c.index_mut.result.now in_code)
    ∙ (ap (λ ls. slice_index_or ls i []) c.loop-place.invariant.left ∙ same_yet c.args.number i lists)) in
    λ x. rw here (omega (arith, c.loop-place.invariant.waits x, uncovers_fits c.args.number x i lists in_lists))

pub loop-place-preserved : goal.loop-place-preserved
loop-place-preserved c =
    let lists : List (List ℕ) = map (λ list. list.now) c.args.self.now.left.items in
    let i : ℕ = c.loop-place.place in
    let l : List ℕ = slice_index_or lists i [] in
    let in_code : i < length c.loop-place.self.left.items = grind (arith, common_steps) in
    let in_lists : i < length lists = grind (arith, common_steps) in
    let here : c.index_mut.result.now.now ≡ l
    = ap (λ q. q.now) c.index_mut.ensures.value
    ∙ (sym (index_map (λ q. q.now) c.loop-place.self.left.items i c.index_mut.result.now in_code)
    ∙ (ap (λ ls. slice_index_or ls i []) c.loop-place.invariant.left ∙ same_yet c.args.number i lists)) in
    let more : take (i + 1) lists ≡ take i lists ++ l ∷ [] = take_one_more lists i [] in_lists in
    let placed_more_is : all_without_first c.args.number (take (i + 1) lists) ≡ all_without_first c.args.number (take i lists) ++ without_first c.args.number l ∷ [] = rw more (all_without_first_push c.args.number l (take i lists)) in
    let step = c.in_ok-begins.ensures in
    let inv = c.loop-place.invariant in
    record {
      left = placed_more (λ q. q.now) c.loop-place.self.left.items lists c.args.number i c.advance.new.list c.index_mut.result.now inv.left in_code in_lists (step.list ∙ ap (λ q. without_first c.args.number q.now) c.index_mut.ensures.value);
      count = inv.count;
      waits = λ x.
          let pushed : all_uncover c.args.number x (take (i + 1) lists) ≡ all_uncover c.args.number x (take i lists) + uncovers c.args.number x l = rw more (uncovers_push c.args.number x l (take i lists)) in
          let now : waits_at c.advance.new.waits x + uncovers c.args.number x l ≡ waits_at c.loop-place.self.waits x = subst (λ k. waits_at c.advance.new.waits x + uncovers c.args.number x k ≡ waits_at c.loop-place.self.waits x) here (step.waits x) in
          omega (arith, pushed, now, inv.waits x);
      ready_before = λ x. omega (arith, inv.ready_before x, step.ready_before x);
      ready_first = λ x rose. elim (eqb_tells (times x c.loop-place.self.ready.items) (times x c.advance.new.ready.items)) [
        | inl same ↦ omega (arith, step.waits x, inv.ready_first x (omega (arith, rose, same.1)))
        | inr other ↦ step.ready_first x (omega (arith, step.ready_before x, other.1))
      ];
      ready_all = λ x behind free. elim (eqb_tells (waits_at c.loop-place.self.waits x) 0) [
        | inl none ↦ omega (arith, inv.ready_all x behind none.1, step.ready_before x)
        | inr some ↦ step.ready_all x (omega (arith, some.1)) free
      ];
      fewer =
          let before : all_left (take (i + 1) lists) ≡ all_left (take i lists) + length l = rw more (left_push l (take i lists)) in
          let after : all_left (all_without_first c.args.number (take (i + 1) lists)) ≡ all_left (all_without_first c.args.number (take i lists)) + length (without_first c.args.number l) = rw placed_more_is (left_push (without_first c.args.number l) (all_without_first c.args.number (take i lists))) in
          let was : length c.index_mut.result.now.now ≡ length l = ap length here in
          let is : length c.advance.new.list.now ≡ length (without_first c.args.number l) = ap length (step.list ∙ ap (without_first c.args.number) here) in
          omega (arith, before, after, was, is, step.fewer, inv.fewer);
      there = let held = held_at c.args.number i lists in let same = ap (times c.args.number) here in grind (arith, common_steps, held, same, step.there, inv.there);
      nowhere = grind (arith, common_steps, more, placed_more_is, here, step.nowhere, inv.nowhere);
    }

pub returns-clause-waits : goal.returns-clause-waits
returns-clause-waits c =
    let lists : List (List ℕ) = map (λ list. list.now) c.args.self.now.left.items in
    let whole : take c.loop-place.place lists ≡ lists = grind (arith, common_steps) in
    let none : drop c.loop-place.place lists ≡ [] = grind (arith, common_steps) in
    let left : map (λ list. list.now) c.loop-place.self.left.items ≡ all_without_first c.args.number lists = grind (arith, common_steps, c.loop-place.invariant.left) in
    λ x.
    let uncovers_is : all_uncover c.args.number x (take c.loop-place.place lists) ≡ all_uncover c.args.number x lists = ap (all_uncover c.args.number x) whole in
    let behind : times_behind x (map (λ list. list.now) c.loop-place.self.left.items) ≡ times_behind x (all_without_first c.args.number lists) = ap (times_behind x) left in
    omega (arith, uncovers_is, behind, c.loop-place.invariant.waits x, uncovers_all c.args.number x lists)

pub returns-clause-ready_first : goal.returns-clause-ready_first
returns-clause-ready_first c = λ x rose. omega (arith, returns-clause-waits c x, c.loop-place.invariant.ready_first x rose)

pub returns-clause-ready_all : goal.returns-clause-ready_all
returns-clause-ready_all c = λ x behind free. c.loop-place.invariant.ready_all x behind (omega (arith, returns-clause-waits c x, free))
