-- The fields of a line: what is between runs of white space.
use Rattle.std.specs.Prelude.{◌≡◌, ℕ, Bool, not, List, [], ◌∷◌, length, filter, nat_le, ◌==◌}
use Rattle.std.specs.List.{slice_split}
use Rattle.relay_base.specs.Ascii.{space}
use Rattle.relay_base.specs.White.{is_white}
use Rattle.line_text.specs.declared.field.Fields.{Fields}
use Rattle.line_text.specs.declared.field.Fields.TheVariants.{None, Three, Other}

abbrev pub is_empty : List ℕ → Bool
is_empty text = length text == 0

-- the parts round each white byte, less the empty ones
abbrev pub fields : List ℕ → List (List ℕ)
fields text = filter (λ part. not (is_empty part)) (slice_split is_white text)

-- a byte above a space, which is not white
abbrev pub is_visible : ℕ → Bool
is_visible b = not (nat_le b space)

-- neither none nor three
abbrev pub IsOtherCount : List (List ℕ) → Type 0
IsOtherCount [] = ⊥
IsOtherCount (first ∷ second ∷ third ∷ []) = ⊥
IsOtherCount others = Unit {0}

-- what the code returns for the fields of a line
abbrev pub AreFields : List (List ℕ) → Fields → Type 0
AreFields fields None = fields ≡ []
AreFields fields (Three name value time) = fields ≡ name.now ∷ value.now ∷ time.now ∷ []
AreFields fields Other = IsOtherCount fields
