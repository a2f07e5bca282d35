-- The records that are those of a set's seats.
use Rattle.std.specs.Prelude.{ℕ, ◌≡◌, ◌/◌, ◌%◌, ◌<◌, ◌≤◌, List, length, slice_get, Some}
use Rattle.queue_records.specs.Offers.{most_entries, readers_each}
use Rattle.queue_records.specs.declared.door_record.DoorRecord.{DoorRecord}
use Rattle.queue_records.specs.declared.made.Made.{Made}
use Rattle.queue_records.specs.declared.outlet_record.OutletRecord.{OutletRecord}
use Rattle.queue_records.specs.declared.taken_batch.TakenBatch.{TakenBatch}

-- the entry is of this receiver's reader, to a destination that there is
abbrev pub IsOfferOf : ℕ → ℕ → Made → Type 0
IsOfferOf dests receiver e = (e.dest.0 < dests) × (e.reader / readers_each ≡ receiver)

abbrev pub AreOffersOf : ℕ → ℕ → List Made → Type 0
AreOffersOf dests receiver made =
    (i : ℕ) (e : Made) → slice_get made i ≡ Some e → IsOfferOf dests receiver e

-- the record may be that of its seat's door, at a set of this name with this number of destinations
pub record IsDoorOf (name dests : ℕ) (r : DoorRecord) : Type 0 where
  pub named : r.name ≡ name
  pub count : r.dests ≡ dests
  pub totals : length r.totals.items ≡ dests
  pub drops : length r.drops.items ≡ dests
  pub few : length r.made.items ≤ most_entries
  pub offers : AreOffersOf dests r.seat r.made.items

-- the entry is of a destination that this sender, one of `senders`, owns
abbrev pub IsTakeOf : ℕ → ℕ → ℕ → TakenBatch → Type 0
IsTakeOf dests senders sender e =
    (e.dest.0 < dests) × (0 < senders) × (e.dest.0 % senders ≡ sender)

abbrev pub AreTakesOf : ℕ → ℕ → ℕ → List TakenBatch → Type 0
AreTakesOf dests senders sender takes =
    (i : ℕ) (e : TakenBatch) → slice_get takes i ≡ Some e → IsTakeOf dests senders sender e

-- the record may be that of its seat's outlet, at a set of this name with these numbers of destinations and senders
pub record IsOutletOf (name dests senders : ℕ) (r : OutletRecord) : Type 0 where
  pub named : r.name ≡ name
  pub count : r.dests ≡ dests
  pub totals : length r.totals.items ≡ dests
  pub few : length r.takes.items ≤ most_entries
  pub takes : AreTakesOf dests senders r.seat r.takes.items

-- one of the records is that of this seat
abbrev pub HasSeat : {R : Type 0} → (R → ℕ) → ℕ → List R → Type 0
HasSeat {R} seat_of seat rs = (i : ℕ) × (r : R) × (slice_get rs i ≡ Some r) × (seat_of r ≡ seat)

-- these are records of all seats, 0, 1 and so on up to this number, each once, in any order
pub record AreOfSeats {R : Type 0} (seat_of : R → ℕ) (IsOf : R → Type 0)
    (seats : ℕ) (rs : List R) : Type 0 where
  pub count : length rs ≡ seats
  pub each : (i : ℕ) (r : R) → slice_get rs i ≡ Some r → IsOf r
  pub all : (seat : ℕ) → seat < seats → HasSeat seat_of seat rs

-- the records are those of the doors and the outlets of such a set
pub record AreOfSet (name dests receivers senders : ℕ) (doors : List DoorRecord)
    (outlets : List OutletRecord) : Type 0 where
  pub of_doors : AreOfSeats (λ r. r.seat) (IsDoorOf name dests) receivers doors
  pub of_outlets : AreOfSeats (λ r. r.seat) (IsOutletOf name dests senders) senders outlets
