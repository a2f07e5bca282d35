-- What a door records: the offers that it made.
use Rattle.std.specs.Prelude.{◌≡◌, ◌⊎◌, ℕ, ◌+◌, ◌-◌, ◌*◌, ◌≤◌, ◌<◌, nat_lt, if◌then◌else◌, List, [], ◌∷◌, ◌++◌, length, slice_index, slice_set}
use Rattle.line_text.specs.Datapoint.{Datapoint}
use Rattle.dest_queue.specs.declared.offer.Kept.{Kept}
use Rattle.dest_queue.specs.declared.offer.Kept.TheVariants.{Queued, Dropped}
use Rattle.dest_queue.specs.declared.offer.OfferFault.{OfferFault}
use Rattle.dest_queue.specs.declared.offer.OfferFault.TheVariants.{NoSuchReader, OutOfTurn, Exhausted, NoMemory}

-- an offer that was made, with its answer
pub record OfferMade : Type 0 where
  pub reader : ℕ
  pub dest : ℕ
  pub number : ℕ
  pub point : Datapoint
  pub kept : Kept

pub record OffersMade : Type 0 where
  -- whose readers' offers they are
  pub receiver : ℕ
  -- the offers, in order, while there was room for them
  pub entries : List OfferMade
  -- how many offers were made to each destination, with those left out of the entries
  pub totals : List ℕ
  -- how many of them were dropped
  pub drops : List ℕ
  -- each reader's next number at each destination
  pub next : List ℕ

-- a record has no more entries
abbrev pub most_entries : ℕ
most_entries = 65536

-- how many readers a receiver has
abbrev pub readers_each : ℕ
readers_each = 1024

-- the readers of a receiver
pub record IsReaderOf (receiver reader : ℕ) : Type 0 where
  pub above : readers_each * receiver ≤ reader
  pub below : reader < readers_each * receiver + readers_each

-- where a reader's next number is: destination by destination, and there reader by reader
abbrev pub number_place : ℕ → ℕ → ℕ → ℕ
number_place receiver reader dest = readers_each * dest + (reader - readers_each * receiver)

-- the number that a reader's next offer to a destination has
abbrev pub next_number : ℕ → ℕ → OffersMade → ℕ
next_number reader dest m = slice_index m.next (number_place m.receiver reader dest)

-- how many datapoints an answer dropped
abbrev pub dropped_by : Kept → ℕ
dropped_by Queued = 0
dropped_by Dropped = 1

-- an empty record of this number of destinations
pub record IsFresh (count receiver : ℕ) (m : OffersMade) : Type 0 where
  pub of_receiver : m.receiver ≡ receiver
  pub entries : m.entries ≡ []
  pub dests : length m.totals ≡ count
  pub drop_count : length m.drops ≡ count
  pub totals : (dest : ℕ) → slice_index m.totals dest ≡ 0
  pub drops : (dest : ℕ) → slice_index m.drops dest ≡ 0
  pub next : (place : ℕ) → slice_index m.next place ≡ 0

-- one entry more, while there is room
abbrev pub with_entry : OfferMade → List OfferMade → List OfferMade
with_entry e es = if nat_lt (length es) most_entries then es ++ e ∷ [] else es

-- one more offer in the totals and in the reader's next number
abbrev pub counted_offer : ℕ → ℕ → Kept → OffersMade → OffersMade
counted_offer reader dest kept m =
    record m {
      totals = slice_set m.totals dest (slice_index m.totals dest + 1);
      drops = slice_set m.drops dest (slice_index m.drops dest + dropped_by kept);
      next = slice_set m.next (number_place m.receiver reader dest) (next_number reader dest m + 1);
    }

-- the record after an offer with this answer
abbrev pub after_offer : ℕ → ℕ → Datapoint → Kept → OffersMade → OffersMade
after_offer reader dest point kept m =
    record (counted_offer reader dest kept m) {
      entries =
          with_entry
          (record {
            reader = reader;
            dest = dest;
            number = next_number reader dest m;
            point = point;
            kept = kept;
          })
          m.entries;
    }

-- an offer that a door may refuse
abbrev pub IsRefusedBy : {D : Type 0} → (D → ℕ → ℕ → Datapoint → OfferFault → Type 0)
    → ℕ → ℕ → Datapoint → Type 0
IsRefusedBy {D} may_refuse reader dest point =
    (door : D) × (fault : OfferFault) × may_refuse door reader dest point fault

-- with this record, a door to queues of this number of readers may refuse a reader's offer so
abbrev pub MayRefuse : ℕ → OffersMade → ℕ → OfferFault → Type 0
MayRefuse readers m reader NoSuchReader = (¬ IsReaderOf m.receiver reader) ⊎ (readers ≤ reader)
MayRefuse readers m reader (OutOfTurn expected) = Unit {0}
MayRefuse readers m reader Exhausted = IsReaderOf m.receiver reader
MayRefuse readers m reader NoMemory = Unit {0}
