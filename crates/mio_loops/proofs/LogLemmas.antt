-- One entry more in a log.
use Rattle.std.proofs.Common.{◌≡◌, ◌≤◌, ◌+◌, ℕ, suc, List, [], ◌∷◌, ◌++◌, length, take, drop, refl, sym, ap, ◌∙◌, arith, Bool, true, false, ◌&&◌, Option}
use Rattle.std.specs.Prelude.{nat_lt, nat_le}
use Rattle.std.proofs.lemmas.List.{take-append-le, drop-append-le, length-drop, length-append, take_all}
use Rattle.reader_core.specs.Entries.{LoggedEntry}
use Rattle.mio_loops.specs.StoredLog.{entry_of, entries_in, bytes_in}
use Rattle.mio_loops.specs.InputLog.{LogState, most_entries, most_bytes, bytes_of, has_room, log_after}
use Rattle.mio_loops.specs.declared.log_entry.LogRow.{LogRow}

-- the bytes of one more entry follow the others
pub entries_more : (rows : List LogRow) (row : LogRow) (bytes more : List ℕ) → bytes_in rows ≡ length bytes
    → entries_in (rows ++ row ∷ []) (bytes ++ more) ≡ entries_in rows bytes ++ entries_in (row ∷ []) more
entries_more [] row [] more total = refl
entries_more [] row (byte ∷ bytes) more total = absurd (omega (arith, total))
entries_more (first ∷ rows) row bytes more total =
    let n = first.length in
    let within : n ≤ length bytes = omega (arith, total) in
    let rest : bytes_in rows ≡ length (drop n bytes) = (let l = length-drop n bytes in omega (arith, total, l)) in
    rw (take-append-le n bytes more within, drop-append-le n bytes more within)
    (ap (λ (es : List LoggedEntry). record { reader = first.reader; entry = entry_of first.moment (take n bytes) } ∷ es) (entries_more rows row (drop n bytes) more rest))

pub bytes_more : (rows : List LogRow) (row : LogRow) → bytes_in (rows ++ row ∷ []) ≡ bytes_in rows + row.length
bytes_more [] row = omega arith
bytes_more (first ∷ rows) row = (let l = bytes_more rows row in omega (arith, l))

entries_length : (rows : List LogRow) (bytes : List ℕ) → length (entries_in rows bytes) ≡ length rows
entries_length [] bytes = refl
entries_length (row ∷ rows) bytes = ap suc (entries_length rows (drop (row.length) bytes))

-- an entry for which there is no room seals the log
pub log_sealed : (entry : LoggedEntry) (log : LogState) → log.sealed ≡ false → has_room entry log ≡ false → record log { sealed = true } ≡ log_after entry log
log_sealed entry log unsealed full = rw (unsealed, full) refl

-- the rows say whether there is room
pub room_as_rows : (rows : List LogRow) (reader : ℕ) (moment : Option ℕ) (bytes more : List ℕ) (sealed : Bool) → length (bytes_of (entry_of moment more)) ≡ length more
    → has_room (record { reader = reader; entry = entry_of moment more }) (record { entries = entries_in rows bytes; byte_count = length bytes; sealed = sealed })
    ≡ (nat_lt (length rows) most_entries && nat_le (length bytes + length more) most_bytes)
room_as_rows rows reader moment bytes more sealed is = rw (entries_length rows bytes, is) refl

-- an entry for which there is room is kept
pub log_kept : (rows : List LogRow) (row : LogRow) (bytes more : List ℕ) → bytes_in rows ≡ length bytes → row.length ≡ length more → length (bytes_of (entry_of row.moment more)) ≡ length more
    → (nat_lt (length rows) most_entries && nat_le (length bytes + length more) most_bytes) ≡ true
    → record { entries = entries_in (rows ++ row ∷ []) (bytes ++ more); byte_count = length (bytes ++ more); sealed = false }
    ≡ log_after (record { reader = row.reader; entry = entry_of row.moment more }) (record { entries = entries_in rows bytes; byte_count = length bytes; sealed = false })
log_kept rows row bytes more total is count room =
    let fits = room_as_rows rows row.reader row.moment bytes more false count ∙ room in
    let whole : take row.length more ≡ more = take_all row.length more (omega (arith, is)) in
    let entries = entries_more rows row bytes more total ∙ ap (λ (xs : List ℕ). entries_in rows bytes ++ record { reader = row.reader; entry = entry_of row.moment xs } ∷ []) whole in
    let all : length (bytes ++ more) ≡ length bytes + length (bytes_of (entry_of row.moment more)) = length-append bytes more ∙ ap (λ (n : ℕ). length bytes + n) (sym count) in
    rw fits (ap (λ (es : List LoggedEntry). record { entries = es; byte_count = length (bytes ++ more); sealed = false }) entries
    ∙ ap (λ (n : ℕ). record { entries = entries_in rows bytes ++ record { reader = row.reader; entry = entry_of row.moment more } ∷ []; byte_count = n; sealed = false }) all)
