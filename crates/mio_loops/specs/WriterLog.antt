-- What a writer's log is.
use Rattle.std.specs.Prelude.{◌≡◌, Bool, true, false, nat_lt, if◌then◌else◌, List, [], ◌∷◌, ◌++◌, length}
use Rattle.dest_writer.specs.Log.{LogEntry}
use Rattle.mio_loops.specs.InputLog.{most_entries}

pub record WriterLog : Type 0 where
  -- the steps, the first one first
  pub entries : List LogEntry
  -- whether one was left out
  pub sealed : Bool

abbrev pub empty_log : WriterLog
empty_log = record { entries = []; sealed = false }

-- one more entry, unless the log is sealed; the first that does not fit seals it
abbrev pub log_after : LogEntry → WriterLog → WriterLog
log_after entry log =
    if log.sealed then log
    else (if nat_lt (length log.entries) most_entries
    then record log { entries = log.entries ++ entry ∷ [] }
    else record log { sealed = true })

-- one entry after another
abbrev pub log_after_all : List LogEntry → WriterLog → WriterLog
log_after_all [] log = log
log_after_all (entry ∷ entries) log = log_after_all entries (log_after entry log)

-- a log that is not sealed has all entries
abbrev pub UnsealedHasAllLaw : Type 0
UnsealedHasAllLaw =
    (entries : List LogEntry) (log : WriterLog) → (log_after_all entries log).sealed ≡ false
    → (log_after_all entries log).entries ≡ log.entries ++ entries
