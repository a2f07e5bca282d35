use Rattle.std.proofs.Common.{◌≡◌, ◌<◌, ◌++◌, ◌∷◌, ℕ, List, [], map, sym, ◌∙◌, subst, append_assoc, append-nil, arith}
use Rattle.std.proofs.lemmas.Grind.{common_steps}
use Rattle.std.proofs.lemmas.Result.{IfOk-from_err}
use Rattle.common_orders.specs.CommonOrder.{times, times_in_all, AreAllWithin, IsCommonOrder}
use Rattle.common_orders.specs.OrderSearch.{all_without_first, HasReady, times_behind}
use Rattle.common_orders.proofs.Orderings.{placing, left, stuck, order_of_none}
use Rattle.common_orders.proofs.Searching.{own_there, ready_after, waiting}
use Rattle.common_orders.proofs.orders.common_order.Goals as goal

pub place-requires-clause-first : goal.place-requires-clause-first
place-requires-clause-first c =
    let popped : c.loop-number.search.ready.items ≡ c.pop.new.self.items ++ c.in-Some-pop.number ∷ [] = grind (arith, common_steps) in
    c.loop-number.invariant.ready.first c.in-Some-pop.number (subst (λ xs. 0 < times c.in-Some-pop.number xs) (sym popped) (own_there c.in-Some-pop.number c.pop.new.self.items))

pub loop-number-preserved-in-Continue-branch-4 : goal.loop-number-preserved-in-Continue-branch-4
loop-number-preserved-in-Continue-branch-4 c =
    let number : ℕ = c.in-Some-pop.number in
    let lists : List (List ℕ) = map (λ list. list.now) c.loop-number.search.left.items in
    let popped : c.loop-number.search.ready.items ≡ c.pop.new.self.items ++ number ∷ [] = grind (arith, common_steps) in
    let first : times_behind number lists ≡ 0
    = c.loop-number.invariant.ready.first number (subst (λ xs. 0 < times number xs) (sym popped) (own_there number c.pop.new.self.items)) in
    let step = c.in-Ok.ensures in
    let held : 0 < times_in_all number lists = grind (arith, common_steps, step.there) in
    let left_is : map (λ list. list.now) c.place.new.self.left.items ≡ all_without_first number lists = step.left in
    let pushed : c.push.new.self.items ≡ c.loop-number.order.items ++ number ∷ [] = grind (arith, common_steps) in
    let ready : HasReady (all_without_first number lists) c.place.new.self.ready.items
    = ready_after number lists c.pop.new.self.items c.place.new.self.ready.items (subst (HasReady lists) popped c.loop-number.invariant.ready) step.ready_before
    (λ x rose. subst (λ ls. times_behind x ls ≡ 0) left_is (step.ready_first x rose))
    (λ x behind free. step.ready_all x behind (subst (λ ls. times_behind x ls ≡ 0) (sym left_is) free)) in
    record {
      completes = λ more order. rw (pushed, append_assoc) (c.loop-number.invariant.completes (number ∷ more) (placing number lists more (record { first = first; held = held }) (subst (λ ls. IsCommonOrder ls more) left_is order)));
      remains = λ order within. subst (λ ls. AreAllWithin ls order) (sym left_is) (left number lists order (c.loop-number.invariant.remains order within));
      waits = step.waits;
      ready = subst (λ ls. HasReady ls c.place.new.self.ready.items) (sym left_is) ready;
    }

pub loop-number-preserved : goal.loop-number-preserved
loop-number-preserved c =
    let number : ℕ = c.in-Some-pop.number in
    let lists : List (List ℕ) = map (λ list. list.now) c.loop-number.search.left.items in
    let popped : c.loop-number.search.ready.items ≡ c.pop.new.self.items ++ number ∷ [] = grind (arith, common_steps) in
    let step = c.in-Ok.ensures in
    let nowhere : all_without_first number lists ≡ lists = grind (arith, common_steps, step.nowhere) in
    let left_is : map (λ list. list.now) c.place.new.self.left.items ≡ all_without_first number lists = step.left in
    let ready : HasReady (all_without_first number lists) c.place.new.self.ready.items
    = ready_after number lists c.pop.new.self.items c.place.new.self.ready.items (subst (HasReady lists) popped c.loop-number.invariant.ready) step.ready_before
    (λ x rose. subst (λ ls. times_behind x ls ≡ 0) left_is (step.ready_first x rose))
    (λ x behind free. step.ready_all x behind (subst (λ ls. times_behind x ls ≡ 0) (sym left_is) free)) in
    record {
      completes = λ more order. c.loop-number.invariant.completes more (subst (λ ls. IsCommonOrder ls more) (left_is ∙ nowhere) order);
      remains = λ order within. subst (λ ls. AreAllWithin ls order) (sym left_is) (left number lists order (c.loop-number.invariant.remains order within));
      waits = step.waits;
      ready = subst (λ ls. HasReady ls c.place.new.self.ready.items) (sym left_is) ready;
    }

pub returns-then-is_done-clause-order : goal.returns-then-is_done-clause-order
returns-then-is_done-clause-order c =
    let empty = c.is_done.ensures.0 c.if-is_done.true in
    subst (IsCommonOrder (map (λ list. list.items) c.args.lists.now)) (append-nil c.loop-number.order.items) (c.loop-number.invariant.completes [] (order_of_none _ empty))

pub returns-clause-no_order : goal.returns-clause-no_order
returns-clause-no_order c = λ reported.
    let lists : List (List ℕ) = map (λ list. list.now) c.loop-number.search.left.items in
    let none : c.loop-number.search.ready.items ≡ [] = grind (arith, common_steps) in (
      λ i lt x. grind (arith, common_steps),
      λ order is.
          let empty = stuck lists order (waiting lists (subst (HasReady lists) none c.loop-number.invariant.ready)) is.once (c.loop-number.invariant.remains order is.within) in
          let done = c.is_done.ensures.1 empty in
          grind (arith, common_steps),
    )

pub returns-in_err-list-clause-order : goal.returns-in_err-list-clause-order
returns-in_err-list-clause-order c = IfOk-from_err _ _ c.from_residual.ensures.0

pub returns-in_err-search-clause-order : goal.returns-in_err-search-clause-order
returns-in_err-search-clause-order c = IfOk-from_err _ _ c.from_residual-in_err-search.ensures.0

pub returns-in_err-map_err-clause-order : goal.returns-in_err-map_err-clause-order
returns-in_err-map_err-clause-order c = IfOk-from_err _ _ c.from_residual-in_err-map_err.ensures.0
