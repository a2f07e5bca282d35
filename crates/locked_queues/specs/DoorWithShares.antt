-- A door to locked queues: its record, and its shares of the totals behind the locks.
use Rattle.std.specs.Prelude.{ℕ, Bool, ◌≡◌, ◌+◌, ◌%◌, ◌<◌, ◌==◌, ◌&&◌, nat_lt, if◌then◌else◌, List, length, slice_index, Result, IfOk, IfErr, OnOk, OnErr}
use Rattle.dest_queue.specs.Offer.{last_count}
use Rattle.dest_queue.specs.declared.offer.Kept.{Kept}
use Rattle.dest_queue.specs.declared.offer.OfferFault.{OfferFault}
use Rattle.line_text.specs.Datapoint.{Datapoint}
use Rattle.queue_records.specs.Offers.{OffersMade, IsReaderOf, MayRefuse, after_offer, dropped_by}
use Rattle.queue_records.specs.Takes.{TakesMade}
use Rattle.locked_queues.specs.Shares.{offered_place, dropped_place, taken_place, cap_at_u64}

pub record DoorWithShares : Type 0 where
  pub made : OffersMade
  pub shares : List ℕ

-- what the record counts is the door's shares
pub record BearsOffers (m : OffersMade) (shares : List ℕ) : Type 0 where
  pub totals : (dest : ℕ) → dest < length m.totals
      → slice_index m.totals dest ≡ slice_index shares (offered_place dest)
  pub drops : (dest : ℕ) → dest < length m.totals
      → slice_index m.drops dest ≡ slice_index shares (dropped_place dest)

-- the record is of this number of destinations, and counts the door's shares
pub record IsSoundDoor (count : ℕ) (m : OffersMade) (shares : List ℕ) : Type 0 where
  pub totals : length m.totals ≡ count
  pub drops : length m.drops ≡ count
  pub bears : BearsOffers m shares

-- the shares after an offer with this answer
abbrev pub SharesOfOffer : ℕ → Kept → List ℕ → List ℕ → Type 0
SharesOfOffer dest kept old new =
    (i : ℕ)
    → slice_index new i
    ≡ slice_index old i + (if i == offered_place dest then 1 else 0)
    + (if i == dropped_place dest then dropped_by kept else 0)

-- an offer of a datapoint by a reader, of which there are this many, to a destination is answered
pub record AnswersOffer (readers reader dest : ℕ) (point : Datapoint) (answer : Result Kept OfferFault)
    (old new : DoorWithShares) : Type 0 where
  pub made : IfOk answer (λ kept. new.made ≡ after_offer reader dest point kept old.made)
  -- the shares of the totals behind the lock rise with the record
  pub shares : IfOk answer (λ kept. SharesOfOffer dest kept old.shares new.shares)
  pub refused : OnErr answer (new.made ≡ old.made)
  pub refused_shares : OnErr answer (new.shares ≡ old.shares)
  -- the record's totals and drops are the shares
  pub bears : BearsOffers new.made new.shares
  -- a reader of another receiver is refused, and so is one more offer than the record can count
  pub fault : IfErr answer (λ fault. MayRefuse readers old.made reader fault)
  pub no_fault : OnOk answer (IsReaderOf old.made.receiver reader × (slice_index old.made.totals dest < last_count))

pub record OutletWithShares : Type 0 where
  pub made : TakesMade
  pub shares : List ℕ
  -- the sender, and how many senders there are
  pub sender : ℕ
  pub senders : ℕ

-- what the record counts is the outlet's shares, at most the greatest count
pub record BearsTakes (m : TakesMade) (shares : List ℕ) : Type 0 where
  pub totals : (dest : ℕ) → dest < length m.totals
      → slice_index m.totals dest ≡ cap_at_u64 (slice_index shares (taken_place dest))

-- the record is of this number of destinations, and counts the outlet's shares
pub record IsSoundOutlet (count : ℕ) (m : TakesMade) (shares : List ℕ) : Type 0 where
  pub totals : length m.totals ≡ count
  pub bears : BearsTakes m shares

-- the shares after a take of this many
abbrev pub SharesOfTake : ℕ → ℕ → List ℕ → List ℕ → Type 0
SharesOfTake dest taken old new =
    (i : ℕ)
    → slice_index new i ≡ slice_index old i + (if i == taken_place dest then taken else 0)

-- which of the destinations a sender owns: one in each `senders`
abbrev pub is_of_sender : ℕ → ℕ → ℕ → ℕ → Bool
is_of_sender dests sender senders dest = nat_lt dest dests && (dest % senders == sender)
