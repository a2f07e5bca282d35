-- A file that is read with more text after it.
use Rattle.std.specs.Prelude.{ℕ, ◌+◌, List, [], ◌++◌, codes, decimal, Option, Some, None}

-- what is known of a reader or of a source that may be missing: a missing one has no bytes
abbrev pub known_of : {A : Type 0} → (A → Option (List ℕ)) → Option A → Option (List ℕ)
known_of known None = Some []
known_of known (Some x) = known x

-- the line of a rewrite file whose rule empties each name of more characters than this, under a header of its own
abbrev pub longest_name_line : ℕ → List ℕ
longest_name_line most = codes "\n[post]\n^.{" ++ decimal (most + 1) ++ codes ",}$ =\n"
