-- What is stored under numbers, as a finite map.
use Rattle.std.specs.Prelude.{ℕ, suc, List, [], ◌∷◌, ◌++◌, map}
use Rattle.std.specs.Ordering.{nat_cmp}
use Rattle.std.specs.FinMap.{FinMap, from_entries}

-- what is stored under 0, 1, 2 and so on, and what is stored under other numbers
pub record Stored (X : Type 0) : Type 0 where
  pub first : List X
  pub others : List (ℕ × X)

abbrev pub stored_in : {X : Type 0} → List X → List (ℕ × X) → Stored X
stored_in first others = record { first = first; others = others }

-- under a number and those that follow it
abbrev pub numbered : {V : Type 0} → ℕ → List V → List (ℕ × V)
numbered n [] = []
numbered n (value ∷ others) = (n, value) ∷ numbered (suc n) others

-- what the value under a number means: that of the list for 0, 1, 2 and so on, or else that of the map for the others
abbrev pub memo : {X V : Type 0} → (X → V) → Stored X → FinMap nat_cmp V
memo meaning s =
    from_entries (numbered 0 (map meaning s.first) ++ map (λ e. (e.0, meaning e.1)) s.others)
