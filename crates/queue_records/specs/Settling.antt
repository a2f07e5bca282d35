-- What queues and records have in common once they settle.
use Rattle.std.specs.Prelude.{ℕ, ◌≡◌, ◌<◌, ◌≤◌, ◌==◌, if◌then◌else◌, List, [], ◌∷◌, Some, length, slice_get, slice_index, sum_by}
use Rattle.dest_queue.specs.Queue.{Queue, empty_queue}
use Rattle.dest_queue.specs.Counts.{counts_of}
use Rattle.dest_queue.specs.History.{Replays}
use Rattle.dest_queue.specs.Offer.{last_count}
use Rattle.dest_queue.specs.RecordedStep.{RecordedStep}
use Rattle.dest_queue.specs.declared.counts.Counts.{Counts}
use Rattle.queue_records.specs.declared.door_record.DoorRecord.{DoorRecord}
use Rattle.queue_records.specs.declared.made.Made.{Made}
use Rattle.queue_records.specs.declared.outlet_record.OutletRecord.{OutletRecord}
use Rattle.queue_records.specs.declared.taken_batch.TakenBatch.{TakenBatch}

-- what a queue counted is the sum of what the doors and the outlets count
pub record AreSums (doors : List DoorRecord) (outlets : List OutletRecord)
    (d : ℕ) (c : Counts) : Type 0 where
  pub offered : sum_by (λ r. slice_index r.totals.items d) doors ≡ c.offered
  pub dropped : sum_by (λ r. slice_index r.drops.items d) doors ≡ c.dropped
  pub taken : sum_by (λ r. slice_index r.totals.items d) outlets ≡ c.taken

-- an unsealed history begins with the empty queue of this size and number of readers, and replays to these counts
abbrev pub Begins : ℕ → ℕ → Counts → List RecordedStep → Type 0
Begins size readers c history =
    c.seals ≡ 0
    → (end : Queue) × Replays size (empty_queue readers) history end × (c ≡ counts_of end)

-- so does each of these histories
abbrev pub AreBegun : ℕ → ℕ → List Counts → List (List RecordedStep) → Type 0
AreBegun size readers [] [] = Unit {0}
AreBegun size readers (c ∷ cs) [] = ⊥
AreBegun size readers [] (h ∷ hs) = ⊥
AreBegun size readers (c ∷ cs) (h ∷ hs) = Begins size readers c h × AreBegun size readers cs hs

-- what each queue counted is such a sum
abbrev pub HaveSums : List DoorRecord → List OutletRecord → List Counts → Type 0
HaveSums doors outlets counts =
    (d : ℕ) (c : Counts) → slice_get counts d ≡ Some c → AreSums doors outlets d c

-- no history was sealed
abbrev pub AreUnsealed : List Counts → Type 0
AreUnsealed counts = (d : ℕ) (c : Counts) → slice_get counts d ≡ Some c → c.seals ≡ 0

-- how many offers to a destination a door's entries have, and how many datapoints from there an outlet's have
abbrev pub offers_in : ℕ → List Made → ℕ
offers_in d made = sum_by (λ e. if e.dest.0 == d then 1 else 0) made

abbrev pub taken_in : ℕ → List TakenBatch → ℕ
taken_in d takes = sum_by (λ e. if e.dest.0 == d then e.taken else 0) takes

-- how many all records have
abbrev pub offers_recorded : ℕ → List DoorRecord → ℕ
offers_recorded d doors = sum_by (λ r. offers_in d r.made.items) doors

abbrev pub taken_recorded : ℕ → List OutletRecord → ℕ
taken_recorded d outlets = sum_by (λ r. taken_in d r.takes.items) outlets

-- the history was not sealed, and no offer and no take was left out of the records
pub record IsWhole (doors : List DoorRecord) (outlets : List OutletRecord)
    (d : ℕ) (c : Counts) : Type 0 where
  pub unsealed : c.seals ≡ 0
  pub offers : c.offered ≤ offers_recorded d doors
  pub taken : c.taken ≤ taken_recorded d outlets

-- the history was not sealed, and these numbers of offers and of datapoints taken are at least what was counted
pub record IsMet (offer_counts take_counts : List ℕ) (d : ℕ) (c : Counts) : Type 0 where
  pub unsealed : c.seals ≡ 0
  pub offers : c.offered ≤ slice_index offer_counts d
  pub taken : c.taken ≤ slice_index take_counts d

-- what a queue counted fits 64 bits
abbrev pub FitsAt : List Counts → ℕ → Type 0
FitsAt counts dest =
    (c : Counts) → slice_get counts dest ≡ Some c → (c.offered ≤ last_count) × (c.taken ≤ last_count)

-- this holds of what each queue counted
abbrev pub HoldsOfEach : (ℕ → Counts → Type 0) → List Counts → Type 0
HoldsOfEach P counts = (d : ℕ) (c : Counts) → slice_get counts d ≡ Some c → P d c

-- the least destination of which this does not hold
pub record IsFirstWithout (P : ℕ → Counts → Type 0) (counts : List Counts) (dest : ℕ) : Type 0 where
  pub within : dest < length counts
  pub here : (c : Counts) → slice_get counts dest ≡ Some c → ¬ P dest c
  pub before : (d : ℕ) (c : Counts) → d < dest → slice_get counts d ≡ Some c → P d c
