-- An index of names.
use Rattle.std.specs.Prelude.{◌≡◌, ℕ, List, Option, String}
use Rattle.std.specs.Global.{Global}
use Rattle.std.specs.HashMap.{HashMap, get_by_text}
use Rattle.std.specs.List.{position_from}
use Rattle.std.specs.Str.{bytes_eq}
use Rattle.std.specs.declared.hash.FoldHasher.{FoldHasher}
use Rattle.std.specs.declared.hash.BuildHasherDefault.{BuildHasherDefault}

-- a map from names to indices
abbrev pub Places : Type 0
Places = HashMap (String Global) ℕ (BuildHasherDefault FoldHasher)

-- the first index of a name
abbrev pub place_of : List ℕ → List (List ℕ) → Option ℕ
place_of name names = position_from (λ n. bytes_eq name n) 0 names

-- the map has the index of each of the names, and of no other
abbrev pub IsIndexOf : List (List ℕ) → Places → Type 0
IsIndexOf names places = (name : List ℕ) → get_by_text places name ≡ place_of name names
