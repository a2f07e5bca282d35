-- What an outlet records: the batches that it took.
use Rattle.std.specs.Prelude.{◌≡◌, ℕ, ◌+◌, ◌-◌, ◌^◌, nat_lt, if◌then◌else◌, List, [], ◌∷◌, ◌++◌, length, slice_index, slice_set}
use Rattle.line_text.specs.Datapoint.{Datapoint}
use Rattle.queue_records.specs.Offers.{most_entries}

-- a batch that was taken, with its limit and its number of datapoints
pub record TakeMade : Type 0 where
  pub dest : ℕ
  pub limit : ℕ
  pub taken : ℕ

pub record TakesMade : Type 0 where
  -- the batches, in order, while there was room for them
  pub entries : List TakeMade
  -- how many datapoints were taken from each destination, with those of batches left out of the entries
  pub totals : List ℕ

-- an empty record of this number of destinations
pub record IsFreshOfTakes (count : ℕ) (m : TakesMade) : Type 0 where
  pub entries : m.entries ≡ []
  pub dests : length m.totals ≡ count
  pub totals : (dest : ℕ) → slice_index m.totals dest ≡ 0

-- one batch more, while there is room
abbrev pub with_take : TakeMade → List TakeMade → List TakeMade
with_take t ts = if nat_lt (length ts) most_entries then ts ++ t ∷ [] else ts

-- a total that rises, at most to the greatest count
abbrev pub saturating_sum : ℕ → ℕ → ℕ
saturating_sum total more = if nat_lt (2 ^ 64 - 1) (total + more) then 2 ^ 64 - 1 else total + more

-- the record after a take of this many; a take of nothing is not recorded
abbrev pub after_take : ℕ → ℕ → ℕ → TakesMade → TakesMade
after_take dest limit taken m =
    if nat_lt 0 taken
    then record {
      entries = with_take (record { dest = dest; limit = limit; taken = taken }) m.entries;
      totals = slice_set m.totals dest (saturating_sum (slice_index m.totals dest) taken);
    }
    else m

-- these datapoints of a destination are what a supply that had recorded this may hand over
abbrev pub IsHandedBy : {S : Type 0} → (S → TakesMade) → (S → ℕ → ℕ → List Datapoint → Type 0)
    → TakesMade → ℕ → ℕ → List Datapoint → Type 0
IsHandedBy {S} record_of may_hand made dest limit points =
    (supply : S) × (record_of supply ≡ made) × may_hand supply dest limit points
