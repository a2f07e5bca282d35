-- A step that was found in a history.
use Rattle.std.specs.Prelude.{List, map}
use Rattle.std.proofs.Common.{Vec, Global}
use Rattle.dest_queue.specs.Step.{recorded_of}
use Rattle.dest_queue.specs.Numbered.{NumberedStep}
use Rattle.queue_records.specs.declared.found_step.FoundStep.{FoundStep}

abbrev pub numbered_of : FoundStep → NumberedStep
numbered_of f = record { dest = f.dest; number = f.number; step = recorded_of f.step.now }

-- the steps that each maker made at each destination, by key
abbrev pub found_by_key : List (Vec FoundStep Global) → List (List NumberedStep)
found_by_key found = map (λ steps. map numbered_of steps.items) found
