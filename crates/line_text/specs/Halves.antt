-- A text in two parts, round the first byte of a kind.
use Rattle.std.specs.Prelude.{ℕ, ◌+◌, Bool, List, Option, Some, None, position, take, drop}

-- what precedes that byte, and what follows it, if there is one
pub record Halves : Type 0 where
  pub front : List ℕ
  pub back : Option (List ℕ)

-- cut at a position, whose byte is left out
abbrev pub halves_at : Option ℕ → List ℕ → Halves
halves_at None text = record { front = text; back = None }
halves_at (Some place) text =
    record { front = take place text; back = Some (drop (place + 1) text) }

abbrev pub halves : (ℕ → Bool) → List ℕ → Halves
halves is_cut text = halves_at (position is_cut text) text
