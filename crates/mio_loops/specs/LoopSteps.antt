-- Connections of a loop are served.
use Rattle.std.specs.Prelude.{◌≡◌, ℕ, ◌+◌, Bool, true, false, if◌then◌else◌, List, [], Option, Some, None, slice_get}
use Rattle.line_text.specs.Datapoint.{Datapoint}
use Rattle.dest_writer.specs.declared.counting.Counting.{Counting}
use Rattle.router.specs.Plan.{Plan}
use Rattle.reader_core.specs.Configuration.{Dispatch}
use Rattle.reader_core.specs.Entries.{InputEntry, LoggedEntry, entries_of}
use Rattle.reader_core.specs.Reader.{ReaderModel}
use Rattle.queue_records.specs.Offers.{OffersMade}
use Rattle.mio_loops.specs.InputLog.{log_after_all}
use Rattle.mio_loops.specs.LoopState.{LoopState, IsBeyond, waiting_in}
use Rattle.mio_loops.specs.Reading.{ReaderOffer, offers_of, AreMade, AreMadeOrRefused, GoesOn}
use Rattle.mio_loops.specs.Serving.{ConnectionServed, with_end, stays}
use Rattle.mio_loops.specs.declared.served.Served.{Served}
use Rattle.mio_loops.specs.declared.served.Served.TheVariants.{Again}

-- ---- the readers, the door and the log

-- the log noted one list of entries, and each reader was fed its own of them; the door made one list of
-- offers, and each reader's are the first ones that waited
pub record LoopProgress {S : Type 0} (plan : Plan) (gained : List LoggedEntry)
    (offered : List ReaderOffer) (old new : LoopState S) (before after : OffersMade) : Type 0 where
  pub first : new.first ≡ old.first
  pub readers : (token : ℕ) (reader : ReaderModel) → slice_get old.readers token ≡ Some reader
      → (next : ReaderModel) × (slice_get new.readers token ≡ Some next)
      × GoesOn plan (entries_of (old.first + token) gained) (offers_of (old.first + token) offered)
      reader next
  -- no others were fed, or made offers
  pub others : (reader : ℕ) → IsBeyond old.first reader
      → (entries_of reader gained ≡ []) × (offers_of reader offered ≡ [])
  pub offers : AreMade offered before after
  pub log : new.log ≡ log_after_all gained old.log

-- of each reader all offers are made, or its door refused one
abbrev pub NoneHeldBack : {S : Type 0} → (ℕ → ℕ → Datapoint → Type 0) → ℕ → LoopState S → Type 0
NoneHeldBack refuses dests loop =
    (token : ℕ) (reader : ReaderModel) → slice_get loop.readers token ≡ Some reader
    → AreMadeOrRefused (refuses (loop.first + token)) dests reader.waiting

-- ---- the connections

-- how a connection was served at a moment, and whether it stayed; one that was not served is as it was, and so is
-- its reader
abbrev pub ConnectionProgress : {S : Type 0} → (S → Option (List ℕ)) → Plan → ℕ → Option Served
    → List InputEntry → List Dispatch → (reader next : Option ReaderModel)
    → (before after : Option (Counting S)) → Type 0
ConnectionProgress remaining plan moment None entries made reader next before after =
    (after ≡ before) × (entries ≡ []) × (made ≡ []) × (next ≡ reader)
ConnectionProgress remaining plan moment (Some answer) entries made reader next None after = ⊥
ConnectionProgress {S} remaining plan moment (Some answer) entries made reader next (Some source) after =
    (last : Counting S) × (pieces : List InputEntry) × (entries ≡ with_end answer pieces)
    × ConnectionServed remaining plan moment answer pieces made reader (waiting_in next) source last
    × (after ≡ (if stays answer then Some last else None))

-- whether a connection is to be served again, by how it was served
abbrev pub is_again : Served → Bool
is_again Again = true
is_again other = false
