-- What was met of the steps of histories, going through the records.
use Rattle.std.specs.Prelude.{ℕ, ◌≡◌, ◌<◌, List, [], ◌++◌, map, length, take, slice_index, slice_index_or, Option, None}
use Rattle.dest_queue.specs.Numbered.{NumberedStep}
use Rattle.queue_records.specs.Numbered.{StepAt, made_by, all_with_numbers}

-- of each maker's steps at each destination, found by key, this many were met: they are those that it made of what was
-- seen
abbrev pub AreMet : ℕ → List (List NumberedStep) → List NumberedStep → List ℕ → Type 0
AreMet readers found seen reached =
    (key : ℕ)
    → key < length found
    → made_by readers key seen ≡ take (slice_index reached key) (slice_index_or found key [])

-- if there is no difference, these records were met with these numbers
pub record Meets {D : Type 0} (readers : ℕ) (found : List (List NumberedStep))
    (records : List (List StepAt)) (numbers : List (List ℕ))
    (least : Option D) (old new : List ℕ) : Type 0 where
  pub lengths : map (λ ns. length ns) numbers ≡ map (λ xs. length xs) records
  pub met : least ≡ None → (seen : List NumberedStep) → AreMet readers found seen old
      → AreMet readers found (seen ++ all_with_numbers records numbers) new
