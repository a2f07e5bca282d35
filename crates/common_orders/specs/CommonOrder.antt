-- Common orders of lists of numbers.
use Rattle.std.specs.Prelude.{ℕ, ◌≡◌, ◌+◌, ◌≤◌, ◌<◌, ◌==◌, ◌⊎◌, if◌then◌else◌, List, [], ◌∷◌, length, slice_index_or}

-- how often x is in the list
abbrev pub times : ℕ → List ℕ → ℕ
times x [] = 0
times x (y ∷ ys) = (if y == x then 1 else 0) + times x ys

-- how often it is in all lists
abbrev pub times_in_all : ℕ → List (List ℕ) → ℕ
times_in_all x [] = 0
times_in_all x (l ∷ ls) = times x l + times_in_all x ls

-- the first list is a subsequence of the second
abbrev pub IsWithin : List ℕ → List ℕ → Type 0
IsWithin [] ys = Unit {0}
IsWithin (x ∷ xs) [] = ⊥
IsWithin (x ∷ xs) (y ∷ ys) = ((x ≡ y) × IsWithin xs ys) ⊎ IsWithin (x ∷ xs) ys

abbrev pub AreAllWithin : List (List ℕ) → List ℕ → Type 0
AreAllWithin [] ys = Unit {0}
AreAllWithin (l ∷ ls) ys = IsWithin l ys × AreAllWithin ls ys

-- a list that holds each number of the lists once and no other, and has each of them as a
-- subsequence
pub record IsCommonOrder (lists : List (List ℕ)) (order : List ℕ) : Type 0 where
  pub once : (x : ℕ) → times x order ≤ 1
  pub held : (x : ℕ) → 0 < times x order → 0 < times_in_all x lists
  pub within : AreAllWithin lists order

-- ---- lists that hold a number twice

abbrev pub HoldsTwice : List ℕ → Type 0
HoldsTwice l = (x : ℕ) × (1 < times x l)

abbrev pub HoldsEachOnce : List ℕ → Type 0
HoldsEachOnce l = (x : ℕ) → times x l ≤ 1

-- each of the first lists, this number of them, holds no number twice
abbrev pub HoldEachOnce : ℕ → List (List ℕ) → Type 0
HoldEachOnce count lists = (i : ℕ) → i < count → HoldsEachOnce (slice_index_or lists i [])

-- the least list that holds a number twice
abbrev pub IsFirstRepeat : List (List ℕ) → ℕ → Type 0
IsFirstRepeat lists place =
    (place < length lists) × HoldsTwice (slice_index_or lists place []) × HoldEachOnce place lists
