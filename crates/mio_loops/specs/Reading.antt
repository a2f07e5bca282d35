-- What a reader was fed, and which of its offers were made.
use Rattle.std.specs.Prelude.{◌≡◌, ◌⊎◌, ◌≤◌, ℕ, ◌==◌, if◌then◌else◌, List, [], ◌∷◌, ◌++◌, length, map}
use Rattle.line_text.specs.Datapoint.{Datapoint}
use Rattle.dest_queue.specs.declared.offer.Kept.{Kept}
use Rattle.router.specs.Plan.{Plan}
use Rattle.reader_core.specs.Configuration.{Dispatch}
use Rattle.reader_core.specs.Entries.{InputEntry, LoggedEntry, input_after_entries}
use Rattle.reader_core.specs.Input.{Stream}
use Rattle.reader_core.specs.Kinds.{relay_reading}
use Rattle.reader_core.specs.PlanConfiguration.{configuration_of}
use Rattle.reader_core.specs.Reader.{ReaderModel, Represents}
use Rattle.reader_core.specs.declared.kind.ReaderKind.{ReaderKind}
use Rattle.reader_core.specs.Record.{NoneAfterClosing, AreMadeBefore}
use Rattle.queue_records.specs.Offers.{OffersMade, after_offer}
use Rattle.mio_loops.specs.InputLog.{LogState, log_after_all}

-- an offer of a reader
pub record ReaderOffer : Type 0 where
  pub reader : ℕ
  pub sent : Dispatch

-- the offers of one reader, in order
abbrev pub offers_of : ℕ → List ReaderOffer → List Dispatch
offers_of r [] = []
offers_of r (offer ∷ offers) =
    if offer.reader == r then offer.sent ∷ offers_of r offers else offers_of r offers

-- what one reader was fed, as entries of a log
abbrev pub entries_by : ℕ → List InputEntry → List LoggedEntry
entries_by r entries = map (λ e. record { reader = r; entry = e }) entries

-- offers of one reader
abbrev pub offers_by : ℕ → List Dispatch → List ReaderOffer
offers_by r sent = map (λ s. record { reader = r; sent = s }) sent

-- these offers were made through a door, one after another, and no others
abbrev pub AreMade : List ReaderOffer → OffersMade → OffersMade → Type 0
AreMade [] before after = after ≡ before
AreMade (offer ∷ offers) before after =
    (kept : Kept)
    × AreMade offers (after_offer offer.reader offer.sent.dest offer.sent.point kept before) after

-- nothing waits; or the first offer that waits is to none of so many destinations, or is one that the door refused
abbrev pub AreMadeOrRefused : (ℕ → Datapoint → Type 0) → ℕ → List Dispatch → Type 0
AreMadeOrRefused refuses dests [] = Unit {0}
AreMadeOrRefused refuses dests (sent ∷ rest) = (dests ≤ sent.dest) ⊎ refuses sent.dest sent.point

-- a reader that represents this input, with these of its offers made, was fed these further entries, and
-- these further offers were made
pub record HasRead (plan : Plan) (kind : ReaderKind) (input : List Stream) (taken : List Dispatch)
    (entries : List InputEntry) (made : List Dispatch) (new : ReaderModel) : Type 0 where
  pub represents : Represents new kind plan (input_after_entries kind entries input) (taken ++ made)
  -- no piece follows one that closed its connection
  pub stays_open :
      (size limit : ℕ)
      → NoneAfterClosing relay_reading (configuration_of plan size limit) kind input entries
  -- all that was sent before a piece is among the offers that were made
  pub made_before :
      (size limit : ℕ)
      → AreMadeBefore relay_reading (configuration_of plan size limit) (length (taken ++ made))
      kind input entries

-- whatever the reader represented by this plan, it was fed these entries, and these of its offers, the first
-- ones that waited, were made
abbrev pub GoesOn : Plan → List InputEntry → List Dispatch → ReaderModel → ReaderModel → Type 0
GoesOn plan entries made old new =
    (kind : ReaderKind) (input : List Stream) (taken : List Dispatch)
    → Represents old kind plan input taken → HasRead plan kind input taken entries made new

-- offers that waited were made, the first ones first
pub record WaitingMade (number : ℕ) (made : List Dispatch) (old new : ReaderModel)
    (before after : OffersMade) : Type 0 where
  pub waiting : old.waiting ≡ made ++ new.waiting
  pub reader : (plan : Plan) → GoesOn plan [] made old new
  pub offers : AreMade (offers_by number made) before after

-- the reader of a number was fed these entries, these of its offers were made through the door, and the
-- log noted the entries
pub record ReaderProgress (plan : Plan) (number : ℕ) (entries : List InputEntry) (made : List Dispatch)
    (old new : ReaderModel) (before after : OffersMade) (noted_before noted_after : LogState) : Type 0
  where
    pub reader : GoesOn plan entries made old new
    pub offers : AreMade (offers_by number made) before after
    pub log : noted_after ≡ log_after_all (entries_by number entries) noted_before
