-- Turns of a receiver of connections.
use Rattle.std.specs.Prelude.{◌≡◌, ℕ, Bool, true, List}
use Rattle.line_text.specs.Datapoint.{Datapoint}
use Rattle.router.specs.Plan.{Plan}
use Rattle.reader_core.specs.Entries.{LoggedEntry, entries_of}
use Rattle.queue_records.specs.Offers.{OffersMade}
use Rattle.mio_loops.specs.LoopState.{LoopState}
use Rattle.mio_loops.specs.LoopSteps.{LoopProgress, NoneHeldBack}
use Rattle.mio_loops.specs.Reading.{ReaderOffer}
use Rattle.receivers.specs.Record.{have_moments}

-- readers of a loop were fed some entries, each piece of a moment that the clock may return, and some offers were made:
-- all, unless the door refused one
abbrev pub TurnsProgress : {S : Type 0} → (ℕ → ℕ → Datapoint → Type 0) → (ℕ → Bool) → Plan
    → (old new : LoopState S) → (before after : OffersMade) → Type 0
TurnsProgress refuses may_give plan old new before after =
    (gained : List LoggedEntry) × (offered : List ReaderOffer)
    × LoopProgress plan gained offered old new before after
    × ((reader : ℕ) → have_moments may_give (entries_of reader gained) ≡ true)
    × (NoneHeldBack refuses plan.destinations old → NoneHeldBack refuses plan.destinations new)
