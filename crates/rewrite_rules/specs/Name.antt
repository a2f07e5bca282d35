-- What rewriting makes of a name.
use Rattle.std.specs.Prelude.{ℕ, ◌≡◌, ◌==◌, Bool, true, false, List, length}
use Rattle.line_text.specs.Name.{is_name}
use Rattle.rewrite_rules.specs.declared.rules.NewName.{NewName}
use Rattle.rewrite_rules.specs.declared.rules.NewName.TheVariants.{Unchanged, Changed, Emptied, Invalid}

-- nothing is left of a text
abbrev pub is_emptied : List ℕ → Bool
is_emptied text = length text == 0

-- the answer for a name of which rules leave a text: the name, if that is one, and otherwise whether anything is left
abbrev pub IsNewName : List ℕ → List ℕ → NewName → Type 0
IsNewName given text Unchanged = (given ≡ text) × (is_name text ≡ true)
IsNewName given text (Changed name) = (name ≡ text) × (is_name text ≡ true)
IsNewName given text Emptied = (is_emptied text ≡ true) × (is_name text ≡ false)
IsNewName given text Invalid = (is_emptied text ≡ false) × (is_name text ≡ false)

-- the name does not change
abbrev pub is_unchanged : NewName → Bool
is_unchanged Unchanged = true
is_unchanged _ = false
