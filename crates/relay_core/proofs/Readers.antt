-- The readers of a world after an event.
use Rattle.std.proofs.Common.{◌≡◌, ◌≢◌, ◌<◌, ◌≤◌, ℕ, List, [], length, get_or-set_same, get_or-set_other}
use Rattle.std.proofs.lemmas.List.{get_or_past}
use Rattle.reader_core.specs.declared.kind.ReaderKind.TheVariants.{Line}
use Rattle.relay_core.specs.Destination.{Destination}
use Rattle.relay_core.specs.World.{WorldState, ReaderState, reader_at}
use Rattle.std.specs.Prelude.{slice_set}

-- one reader is replaced
pub reader_at-set_same : (w : WorldState) (r : ℕ) (reader : ReaderState) (dests : List Destination) → r < length w.readers
    → reader_at (record { readers = slice_set w.readers r reader; destinations = dests }) r ≡ reader
reader_at-set_same w r reader dests h = get_or-set_same w.readers r reader (record { kind = Line; input = []; made = 0 }) h

pub reader_at-set_other : (w : WorldState) (r q : ℕ) (reader : ReaderState) (dests : List Destination) → q ≢ r
    → reader_at (record { readers = slice_set w.readers r reader; destinations = dests }) q ≡ reader_at w q
reader_at-set_other w r q reader dests n = get_or-set_other w.readers r q reader (record { kind = Line; input = []; made = 0 }) n

pub reader_at-past : (w : WorldState) (r : ℕ) → length w.readers ≤ r → reader_at w r ≡ record { kind = Line; input = []; made = 0 }
reader_at-past w r h = get_or_past w.readers r (record { kind = Line; input = []; made = 0 }) h
