-- The search for a common order: what may be placed next, and what is then left of the lists.
use Rattle.std.specs.Prelude.{ℕ, ◌≡◌, ◌+◌, ◌<◌, ◌==◌, nat_eq, if◌then◌else◌, List, [], ◌∷◌, length}
use Rattle.std.specs.HashMap.{HashMap, get}
use Rattle.std.specs.Map.{count_at}
use Rattle.common_orders.specs.CommonOrder.{times, times_in_all}

-- how many numbers are left in all lists
abbrev pub all_left : List (List ℕ) → ℕ
all_left [] = 0
all_left (l ∷ ls) = length l + all_left ls

-- a list without its first number
abbrev pub rest : List ℕ → List ℕ
rest [] = []
rest (x ∷ xs) = xs

-- how many lists begin with a number
abbrev pub begins : ℕ → List ℕ → ℕ
begins x [] = 0
begins x (y ∷ ys) = if y == x then 1 else 0

abbrev pub times_first : ℕ → List (List ℕ) → ℕ
times_first x [] = 0
times_first x (l ∷ ls) = begins x l + times_first x ls

-- how often a number is behind the first place of a list
abbrev pub times_behind : ℕ → List (List ℕ) → ℕ
times_behind x [] = 0
times_behind x (l ∷ ls) = times x (rest l) + times_behind x ls

-- a list without its first number, if that is x
abbrev pub without_first : ℕ → List ℕ → List ℕ
without_first x [] = []
without_first x (y ∷ ys) = if y == x then ys else y ∷ ys

-- what is left of the lists once x is placed
abbrev pub all_without_first : ℕ → List (List ℕ) → List (List ℕ)
all_without_first x [] = []
all_without_first x (l ∷ ls) = without_first x l ∷ all_without_first x ls

-- each list is empty, or its first number is behind the first place of a list
abbrev pub IsWaiting : List (List ℕ) → List ℕ → Type 0
IsWaiting all [] = Unit {0}
IsWaiting all (x ∷ xs) = 0 < times_behind x all

abbrev pub AreAllWaiting : List (List ℕ) → List (List ℕ) → Type 0
AreAllWaiting all [] = Unit {0}
AreAllWaiting all (l ∷ ls) = IsWaiting all l × AreAllWaiting all ls

abbrev pub AreAllEmpty : List (List ℕ) → Type 0
AreAllEmpty [] = Unit {0}
AreAllEmpty (l ∷ ls) = (l ≡ []) × AreAllEmpty ls

-- x may be placed next: it is the first of every list that holds it, and a list holds it
pub record IsNext (x : ℕ) (lists : List (List ℕ)) : Type 0 where
  pub first : times_behind x lists ≡ 0
  pub held : 0 < times_in_all x lists

-- how often placing x brings y to the front of a list
abbrev pub uncovers : ℕ → ℕ → List ℕ → ℕ
uncovers x y [] = 0
uncovers x y (z ∷ []) = 0
uncovers x y (z ∷ w ∷ l) = if z == x then (if w == y then 1 else 0) else 0

abbrev pub all_uncover : ℕ → ℕ → List (List ℕ) → ℕ
all_uncover x y [] = 0
all_uncover x y (l ∷ ls) = uncovers x y l + all_uncover x y ls

-- how many lists a number waits for, as a map keeps it
abbrev pub waits_at : {S : Type 0} → HashMap ℕ ℕ S → ℕ → ℕ
waits_at m x = count_at (get nat_eq m) x

-- the map has for each number how often it is behind a first place
abbrev pub HasWaits : {S : Type 0} → List (List ℕ) → HashMap ℕ ℕ S → Type 0
HasWaits lists m = (x : ℕ) → waits_at m x ≡ times_behind x lists

-- what is ready is behind no first place, and all that may be placed next is ready
pub record HasReady (lists : List (List ℕ)) (ready : List ℕ) : Type 0 where
  pub first : (x : ℕ) → 0 < times x ready → times_behind x lists ≡ 0
  pub all : (x : ℕ) → IsNext x lists → 0 < times x ready
