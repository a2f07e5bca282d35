-- Where in a text its sending stands, by what each connection took of it.
use Rattle.std.specs.Prelude.{ℕ, ◌+◌, List, length, flat_map}
use Rattle.backlog.specs.Lines.{whole_lines}

pub record Place : Type 0 where
  -- where the first line begins that no connection took to its end
  pub start : ℕ
  -- where the next byte is that the connection gets
  pub next : ℕ

-- connections that are over took these bytes, each from the beginning of a line, and the last one took those
abbrev pub place_after : List (List ℕ) → List ℕ → Place
place_after over taken =
    let base = length (flat_map whole_lines over) in
    record { start = base + length (whole_lines taken); next = base + length taken }
