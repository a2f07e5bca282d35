-- The lines of a text, and what a connection took of them.
use Rattle.std.specs.Prelude.{ℕ, List, [], ◌∷◌, ◌==◌, length, drop, if◌then◌else◌}
use Rattle.relay_base.specs.Ascii.{newline}

-- a byte before whole lines: it is part of them, or ends a line itself
abbrev pub before_lines : ℕ → List ℕ → List ℕ
before_lines b [] = if b == newline then b ∷ [] else []
before_lines b (next ∷ others) = b ∷ next ∷ others

-- the whole lines of a text: all up to and with its last byte 10
abbrev pub whole_lines : List ℕ → List ℕ
whole_lines [] = []
whole_lines (b ∷ bytes) = before_lines b (whole_lines bytes)

-- what is left of a text, from the beginning of a line, once a connection took these bytes of it: the lines that it did
-- not take to their ends
abbrev pub left_by : List ℕ → List ℕ → List ℕ
left_by taken text = drop (length (whole_lines taken)) text
