use Rattle.std.proofs.Common.{ℕ, List, [], map, inl, inr, slice_index_or, sym, subst, arith}
use Rattle.std.proofs.lemmas.Grind.{common_steps}
use Rattle.std.proofs.lemmas.Bool.Decides.{eqb_tells}
use Rattle.common_orders.specs.CommonOrder.{HoldsEachOnce}
use Rattle.common_orders.proofs.repeats.first_repeat.Goals as goal

pub loop-place-preserved : goal.loop-place-preserved
loop-place-preserved c =
    let lists : List (List ℕ) = map (λ list. list.items) c.args.lists.now in
    let here : HoldsEachOnce (slice_index_or lists c.loop-place.place []) = grind (arith, common_steps) in
    λ i lt. elim (eqb_tells i c.loop-place.place) [
      | inl same ↦ subst (λ k. HoldsEachOnce (slice_index_or lists k [])) (sym same.1) here
      | inr other ↦ c.loop-place.invariant i (omega (arith, lt, other.1))
    ]
