-- The steps of the records, and whether they are those of the histories.
use Rattle.std.specs.Prelude.{ℕ, ◌≡◌, ◌+◌, ◌*◌, ◌<◌, ◌==◌, List, [], ◌∷◌, ◌++◌, map, length}
use Rattle.std.specs.List.{filter}
use Rattle.dest_queue.specs.RecordedStep.{RecordedStep, Offered, Took}
use Rattle.dest_queue.specs.Numbered.{NumberedStep, all_numbered}
use Rattle.queue_records.specs.Offers.{OfferMade}
use Rattle.queue_records.specs.Takes.{TakeMade}

-- a step of a destination's queue
pub record StepAt : Type 0 where
  pub dest : ℕ
  pub step : RecordedStep

-- what an entry of a record says was done
abbrev pub step_of_offer : OfferMade → StepAt
step_of_offer e = record { dest = e.dest; step = Offered e.reader e.number e.point e.kept }

abbrev pub step_of_take : TakeMade → StepAt
step_of_take t = record { dest = t.dest; step = Took t.limit t.taken }

-- who makes a step: a reader, as its number; the sender, as the number of readers
abbrev pub maker_of : ℕ → RecordedStep → ℕ
maker_of readers (Offered reader number point kept) = reader
maker_of readers (Took limit taken) = readers

-- who makes it at which destination, as one number: the destinations' makers one after another
abbrev pub key_of : ℕ → ℕ → RecordedStep → ℕ
key_of readers dest s = (readers + 1) * dest + maker_of readers s

-- the steps that one maker made at one destination, in order
abbrev pub made_by : ℕ → ℕ → List NumberedStep → List NumberedStep
made_by readers key xs = filter (λ x. key_of readers x.dest x.step == key) xs

-- a step with this number
abbrev pub with_number : ℕ → StepAt → NumberedStep
with_number n x = record { dest = x.dest; number = n; step = x.step }

-- the steps of a record with these numbers
abbrev pub with_numbers : List StepAt → List ℕ → List NumberedStep
with_numbers [] ns = []
with_numbers (x ∷ xs) [] = []
with_numbers (x ∷ xs) (n ∷ ns) =
    with_number n x ∷ with_numbers xs ns

-- those of all records, one record after the other
abbrev pub all_with_numbers : List (List StepAt) → List (List ℕ) → List NumberedStep
all_with_numbers [] nss = []
all_with_numbers (xs ∷ xss) [] = []
all_with_numbers (xs ∷ xss) (ns ∷ nss) = with_numbers xs ns ++ all_with_numbers xss nss

-- with these numbers the steps of the records are those of the histories: of each reader at each destination, and of
-- the sender there, the same steps in the same order
pub record AreStepsOf (readers : ℕ) (histories : List (List RecordedStep))
    (records : List (List StepAt)) (numbers : List (List ℕ)) : Type 0 where
  pub lengths : map (λ ns. length ns) numbers ≡ map (λ xs. length xs) records
  pub same : (key : ℕ) → key < (readers + 1) * length histories
      → made_by readers key (all_with_numbers records numbers)
      ≡ made_by readers key (all_numbered 0 histories)
