-- Entries of a log, one after another.
use Rattle.std.proofs.Common.{◌≡◌, ◌++◌, ◌∙◌, Bool, true, false, List, [], ◌∷◌, length, nat_lt, refl, sym, ap, append-nil, append_assoc}
use Rattle.std.proofs.lemmas.Bool.{false≢true}
use Rattle.dest_writer.specs.Log.{LogEntry}
use Rattle.mio_loops.specs.InputLog.{most_entries}
use Rattle.mio_loops.specs.WriterLog.{WriterLog, log_after, log_after_all, UnsealedHasAllLaw}

-- a sealed log stays sealed
stays-sealed : (entries : List LogEntry) (log : WriterLog) → log.sealed ≡ true → (log_after_all entries log).sealed ≡ true
stays-sealed [] log sealed = sealed
stays-sealed (entry ∷ entries) log sealed = stays-sealed entries (log_after entry log) (rw sealed refl)

has-all : (s b : Bool) (entry : LogEntry) (entries : List LogEntry) (log : WriterLog) → log.sealed ≡ s → nat_lt (length log.entries) most_entries ≡ b
    → (log_after_all (entry ∷ entries) log).sealed ≡ false → (log_after entry log).entries ≡ log.entries ++ entry ∷ []
has-all true b entry entries log sealed room unsealed =
    absurd (false≢true (sym unsealed ∙ stays-sealed entries (log_after entry log) (rw sealed refl)))
has-all false true entry entries log sealed room unsealed = rw (sealed, room) refl
has-all false false entry entries log sealed room unsealed =
    absurd (false≢true (sym unsealed ∙ stays-sealed entries (log_after entry log) (rw (sealed, room) refl)))

pub unsealed-has_all : UnsealedHasAllLaw
unsealed-has_all [] log unsealed = sym (append-nil log.entries)
unsealed-has_all (entry ∷ entries) log unsealed =
    unsealed-has_all entries (log_after entry log) unsealed
    ∙ ap (λ (es : List LogEntry). es ++ entries) (has-all _ _ entry entries log refl refl unsealed)
    ∙ append_assoc log.entries (entry ∷ []) entries
