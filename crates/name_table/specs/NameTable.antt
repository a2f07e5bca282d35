-- A table of names as the list of its entries.
use Rattle.std.specs.Prelude.{◌≡◌, ◌⊎◌, ℕ, true, List, Option, Contains}
use Rattle.std.specs.List.{All, filter_map}
use Rattle.line_text.specs.Name.{is_name}

module _ {E : Type 0} where
  -- the entries that some slots hold
  abbrev pub entries_in : List (Option E) → List E
  entries_in slots = filter_map (λ slot. slot) slots

  -- keeping an entry adds no other: each entry afterwards was there, or is that one
  abbrev pub Keeps : List E → E → List E → Type 0
  Keeps before entry after = All (λ (e : E). Contains before e ⊎ (e ≡ entry)) after

-- what is found for a text: an entry of the table, with exactly the name that the text is
pub record IsFound {V : Type 0} (entries : List (List ℕ × V)) (text : List ℕ) (entry : List ℕ × V) : Type 0 where
  pub held : Contains entries entry
  pub name : entry.0 ≡ text
  pub is_name : is_name text ≡ true
