-- What a receiver returns: its log, and what its door recorded.
use Rattle.std.specs.Prelude.{ℕ, ◌≡◌, ◌<◌, ◌≤◌, ◌⊎◌, Bool, true, false, List, [], Option, Some, None, length}
use Rattle.std.specs.List.{list_all}
use Rattle.relay_base.specs.declared.limits.TheConstants.{MOST_RECEIVERS}
use Rattle.line_text.specs.Datapoint.{Datapoint}
use Rattle.router.specs.Plan.{Plan}
use Rattle.reader_core.specs.Configuration.{Dispatch}
use Rattle.reader_core.specs.Entries.{InputEntry, Piece, End, LoggedEntry, entries_of}
use Rattle.reader_core.specs.Input.{fresh_input}
use Rattle.reader_core.specs.Reader.{ReaderModel, Represents}
use Rattle.reader_core.specs.declared.kind.ReaderKind.{ReaderKind}
use Rattle.queue_records.specs.Offers.{OffersMade, IsReaderOf}
use Rattle.mio_loops.specs.InputLog.{LogState, log_after_all}
use Rattle.mio_loops.specs.Reading.{ReaderOffer, AreMade, AreMadeOrRefused, GoesOn, offers_of}
use Rattle.mio_loops.specs.declared.readiness.ReadinessFault.{ReadinessFault}
use Rattle.mio_loops.specs.declared.readiness.ReadinessFault.TheVariants.{Device, NoMemory}

-- a receiver may begin: its number is one of those that receivers have, and the door, which made these offers, has all
-- destinations of its plan
abbrev pub MayBegin : (receiver : ℕ) → Plan → OffersMade → Type 0
MayBegin receiver plan made = (receiver < MOST_RECEIVERS) × (plan.destinations ≤ length made.totals)

-- a log without entries, sealed if it could not be made
abbrev pub begun_log : Bool → LogState
begun_log is_sealed = record { entries = []; byte_count = 0; sealed = is_sealed }

-- a piece has a moment that the clock may return; the end of a connection has none
abbrev pub has_moment : (ℕ → Bool) → InputEntry → Bool
has_moment may_give (Piece bytes moment) = may_give moment
has_moment may_give End = true

-- each piece has
abbrev pub have_moments : (ℕ → Bool) → List InputEntry → Bool
have_moments may_give entries = list_all (has_moment may_give) entries

-- a reader was fed these entries from its beginning, and these of its offers were made: it represents them,
-- no piece followed one that closed its connection, and all that was sent before a piece had been offered
pub record ReaderRan (kind : ReaderKind) (plan : Plan) (entries : List InputEntry)
    (offers : List Dispatch) : Type 0 where
  pub first : ReaderModel
  pub last : ReaderModel
  pub fresh : Represents first kind plan (fresh_input kind) []
  pub goes : GoesOn plan entries offers first last

-- the readers of a receiver, whose clock may return these moments, were fed and made offers: the log noted what
-- they were fed, and the door made their offers
pub record ReceiverRan (kind : ReaderKind) (plan : Plan) (receiver : ℕ) (may_give : ℕ → Bool)
    (log : LogState) (before after : OffersMade) : Type 0 where
  -- what the readers were fed, in order
  pub gained : List LoggedEntry
  -- the offers that they made, in order
  pub offered : List ReaderOffer
  pub readers : (reader : ℕ) → IsReaderOf receiver reader
      → ReaderRan kind plan (entries_of reader gained) (offers_of reader offered)
  -- each piece has a moment that the clock may return
  pub moments : (reader : ℕ) → have_moments may_give (entries_of reader gained) ≡ true
  -- no others were fed, or made offers
  pub others : (reader : ℕ) → (IsReaderOf receiver reader → ⊥)
      → (entries_of reader gained ≡ []) × (offers_of reader offered ≡ [])
  pub offers : AreMade offered before after
  -- the log could be made and noted all that, or nothing was received
  pub noted : (log ≡ log_after_all gained (begun_log false))
      ⊎ ((log ≡ begun_log true) × (gained ≡ []) × (offered ≡ []))
  -- a log that is not sealed has all entries
  pub whole : log.sealed ≡ false → log.entries ≡ gained

-- and each reader has made all its offers, or the door refused the first of those that are missing
abbrev pub RanOrRefused : (ℕ → ℕ → Datapoint → Type 0) → ReaderKind → Plan → (receiver : ℕ)
    → (ℕ → Bool) → LogState → (before after : OffersMade) → Type 0
RanOrRefused refuses kind plan receiver may_give log before after =
    (ran : ReceiverRan kind plan receiver may_give log before after)
    × ((reader : ℕ) (own : IsReaderOf receiver reader)
    → AreMadeOrRefused (refuses reader) plan.destinations (ran.readers reader own).last.waiting)

-- why a receiver ended without being stopped: a device failed, or there was no memory to begin, and then
-- nothing was received
abbrev pub EndsFor : Option ReadinessFault → LogState → (before after : OffersMade) → Type 0
EndsFor None log before after = Unit {0}
EndsFor (Some Device) log before after = Unit {0}
EndsFor (Some NoMemory) log before after = (log ≡ begun_log true) × (after ≡ before)
