-- The steps of histories with their numbers, in the order of the numbers.
use Rattle.std.specs.Prelude.{ℕ, ◌+◌, ◌*◌, ◌==◌, ◌&&◌, Bool, false, List, [], ◌∷◌, ◌++◌, length, map, filter, filter_map, Option}
use Rattle.std.specs.List.{find, range_with_len}
use Rattle.dest_queue.specs.Queue.{most_steps}
use Rattle.dest_queue.specs.RecordedStep.{RecordedStep, Offered, Took}

-- a step of a destination's queue, with its number
pub record NumberedStep : Type 0 where
  pub dest : ℕ
  pub number : ℕ
  pub step : RecordedStep

-- the steps of a history, numbered on
abbrev pub numbered_from : ℕ → ℕ → List RecordedStep → List NumberedStep
numbered_from dest number [] = []
numbered_from dest number (step ∷ steps) =
    record { dest = dest; number = number; step = step } ∷ numbered_from dest (number + 1) steps

-- all steps of the histories: step i of destination d has the number 65,536 d + i
abbrev pub all_numbered : ℕ → List (List RecordedStep) → List NumberedStep
all_numbered dest [] = []
all_numbered dest (history ∷ histories) =
    numbered_from dest (most_steps * dest) history ++ all_numbered (dest + 1) histories

-- the numbers of each history's steps
abbrev pub history_numbers : ℕ → List (List RecordedStep) → List (List ℕ)
history_numbers dest [] = []
history_numbers dest (history ∷ histories) =
    range_with_len (most_steps * dest) (length history) ∷ history_numbers (dest + 1) histories

abbrev pub numbers_of : List NumberedStep → List ℕ
numbers_of steps = map (λ x. x.number) steps

-- the step of the histories that has this number
abbrev pub step_numbered : List (List RecordedStep) → ℕ → Option NumberedStep
step_numbered histories number = find (λ x. x.number == number) (all_numbered 0 histories)

-- the steps of the histories in the order of these numbers
abbrev pub steps_in_order : List (List RecordedStep) → List ℕ → List NumberedStep
steps_in_order histories order = filter_map (step_numbered histories) order

-- ---- the offers of a reader

abbrev pub is_offer_of : ℕ → RecordedStep → Bool
is_offer_of r (Offered reader number point kept) = reader == r
is_offer_of r (Took limit taken) = false

abbrev pub offers_of_reader : ℕ → List NumberedStep → List NumberedStep
offers_of_reader r steps = filter (λ x. is_offer_of r x.step) steps

-- those of them at one destination
abbrev pub offers_at : ℕ → ℕ → List NumberedStep → List NumberedStep
offers_at r d steps = filter (λ x. is_offer_of r x.step && x.dest == d) steps
