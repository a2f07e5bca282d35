-- Tuples of two items, by what the second is.
use Rattle.std.proofs.Common.{◌≡◌, List, [], ◌∷◌, Some, None, ok_or, refl, ap}
use Rattle.pickle_subset.specs.declared.fault.PickleFault.TheVariants.{BadShape}
use Rattle.pickle_subset.specs.Value as values
use Rattle.pickle_subset.specs.Value.{Item, Marked, Rows, One, Two, Three}
use Rattle.pickle_subset.specs.Stack.{State, tuple, join_marked}
use Rattle.pickle_subset.specs.Views.{scalar_in, pair_of, pair_or_fault}

pub second_pair : (second : Item) (pair : values.Pair) → pair_of second ≡ Some pair → second ≡ Two pair
second_pair Marked pair is = absurd cc
second_pair Rows pair is = absurd cc
second_pair (One s) pair is = absurd cc
second_pair (Two p) pair is = let same : p ≡ pair = cc in ap Two same
second_pair (Three r) pair is = absurd cc

pub no_pair : (first second : Item) → pair_of second ≡ None → ok_or (tuple first second) BadShape ≡ pair_or_fault (scalar_in first) (scalar_in second)
no_pair first (Two p) is = absurd cc
no_pair Marked Marked is = refl
no_pair Marked Rows is = refl
no_pair Marked (One s) is = refl
no_pair Marked (Three r) is = refl
no_pair Rows Marked is = refl
no_pair Rows Rows is = refl
no_pair Rows (One s) is = refl
no_pair Rows (Three r) is = refl
no_pair (One t) (One s) is = refl
no_pair (One (values.Text t)) Marked is = refl
no_pair (One (values.Text t)) Rows is = refl
no_pair (One (values.Text t)) (Three r) is = refl
no_pair (One (values.Whole t)) Marked is = refl
no_pair (One (values.Whole t)) Rows is = refl
no_pair (One (values.Whole t)) (Three r) is = refl
no_pair (One (values.Binary t)) Marked is = refl
no_pair (One (values.Binary t)) Rows is = refl
no_pair (One (values.Binary t)) (Three r) is = refl
no_pair (One values.Other) Marked is = refl
no_pair (One values.Other) Rows is = refl
no_pair (One values.Other) (Three r) is = refl
no_pair (Two p) Marked is = refl
no_pair (Two p) Rows is = refl
no_pair (Two p) (One s) is = refl
no_pair (Two p) (Three r) is = refl
no_pair (Three q) Marked is = refl
no_pair (Three q) Rows is = refl
no_pair (Three q) (One s) is = refl
no_pair (Three q) (Three r) is = refl

-- a join does not read the stack of the state besides the items that it takes
pub join_marked-of_any : (items : List Item) (s : State) (others : List Item) → join_marked items (record s { stack = others }) ≡ join_marked items s
join_marked-of_any [] s others = refl
join_marked-of_any (second ∷ []) s others = refl
join_marked-of_any (second ∷ first ∷ []) s others = refl
join_marked-of_any (second ∷ first ∷ Marked ∷ below) s others = refl
join_marked-of_any (second ∷ first ∷ Rows ∷ below) s others = refl
join_marked-of_any (second ∷ first ∷ One scalar ∷ below) s others = refl
join_marked-of_any (second ∷ first ∷ Two pair ∷ below) s others = refl
join_marked-of_any (second ∷ first ∷ Three row ∷ below) s others = refl
