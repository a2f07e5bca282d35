-- What holds of the fields of a writer.
use Rattle.std.proofs.Common.{◌≡◌, true, List, [], ◌∷◌, refl}
use Rattle.std.proofs.lemmas.Bool.{and_parts, false≢true}
use Rattle.line_text.specs.Datapoint.{Datapoint}
use Rattle.dest_writer.specs.Writer.{WriterState, is_empty_handed, wants_batch}

empty_handed : (points : List Datapoint) → is_empty_handed points ≡ true → points ≡ []
empty_handed [] e = refl
empty_handed (point ∷ points) e = absurd (false≢true e)

-- a writer that wants a batch has nothing in hand
pub wants_batch-empty : (w : WriterState) → wants_batch w ≡ true → w.hand ≡ []
wants_batch-empty w wanted = empty_handed w.hand (and_parts w.up (is_empty_handed w.hand) wanted).1
