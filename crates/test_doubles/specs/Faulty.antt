-- What a call of a faulty reader or writer does.
use Rattle.std.specs.Prelude.{ℕ, ◌^◌, ◌-◌, max, min, List, [], ◌∷◌, Option, Some, None}
use Rattle.std.specs.declared.io.ErrorKind.{ErrorKind}
use Rattle.std.specs.declared.io.ErrorKind.TheVariants as kind
use Rattle.test_doubles.specs.declared.step.FaultyStep.{FaultyStep}
use Rattle.test_doubles.specs.declared.step.FaultyStep.TheVariants.{Pass, Block, Interrupt, Fail}

-- the step of the next call, if the list has one
abbrev pub first_step : List FaultyStep → Option FaultyStep
first_step [] = None
first_step (step ∷ steps) = Some step

-- the steps of the calls after it
abbrev pub later_steps : List FaultyStep → List FaultyStep
later_steps [] = []
later_steps (step ∷ steps) = steps

-- how many bytes a call moves at most, if it moves any
abbrev pub most_of : Option FaultyStep → Option ℕ
most_of None = Some (2 ^ 64 - 1)
most_of (Some (Pass most)) = Some (max most 1)
most_of (Some Block) = None
most_of (Some Interrupt) = None
most_of (Some Fail) = None

-- how many bytes it moves of those for which there is room
abbrev pub moved : Option ℕ → (room : ℕ) → ℕ
moved None room = 0
moved (Some most) room = min most room

-- the kind of its error, if it has one
abbrev pub kind_of : Option FaultyStep → Option ErrorKind
kind_of None = None
kind_of (Some (Pass most)) = None
kind_of (Some Block) = Some kind.WouldBlock
kind_of (Some Interrupt) = Some kind.Interrupted
kind_of (Some Fail) = Some kind.Other
