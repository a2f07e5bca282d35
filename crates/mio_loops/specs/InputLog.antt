-- A log of what readers were fed, until it is sealed.
use Rattle.std.specs.Prelude.{ℕ, ◌+◌, ◌&&◌, Bool, true, nat_lt, nat_le, if◌then◌else◌, List, [], ◌∷◌, ◌++◌, length}
use Rattle.reader_core.specs.Entries.{InputEntry, Piece, End, LoggedEntry}

pub record LogState : Type 0 where
  -- the entries, in order, while there was room for them
  pub entries : List LoggedEntry
  -- how many bytes their pieces have
  pub byte_count : ℕ
  -- an entry did not fit, and no later one is kept
  pub sealed : Bool

-- a log has no more entries
abbrev pub most_entries : ℕ
most_entries = 65536

-- and its pieces no more bytes
abbrev pub most_bytes : ℕ
most_bytes = 1048576

abbrev pub bytes_of : InputEntry → List ℕ
bytes_of (Piece bytes moment) = bytes
bytes_of End = []

-- there is room for an entry
abbrev pub has_room : LoggedEntry → LogState → Bool
has_room entry log =
    nat_lt (length log.entries) most_entries
    && nat_le (log.byte_count + length (bytes_of entry.entry)) most_bytes

abbrev pub with_entry : LoggedEntry → LogState → LogState
with_entry entry log =
    record log {
      entries = log.entries ++ entry ∷ [];
      byte_count = log.byte_count + length (bytes_of entry.entry);
    }

-- an entry more, unless the log is sealed; one that does not fit seals it
abbrev pub log_after : LoggedEntry → LogState → LogState
log_after entry log =
    if log.sealed then log
    else (if has_room entry log then with_entry entry log else record log { sealed = true })

-- one entry after another
abbrev pub log_after_all : List LoggedEntry → LogState → LogState
log_after_all [] log = log
log_after_all (entry ∷ entries) log = log_after_all entries (log_after entry log)
