-- What follows from the record of a sender.
use Rattle.std.specs.Prelude.{ℕ, ◌≡◌, false, List, [], ◌∷◌, length, map}
use Rattle.line_text.specs.Datapoint.{Datapoint}
use Rattle.dest_writer.specs.Writer.{fresh_writer}
use Rattle.dest_writer.specs.Log.{AreWritten, Batch, takes_in_log}
use Rattle.mio_loops.specs.WriterLog.{WriterLog}
use Rattle.mio_loops.specs.WriterSteps.{WriterStep, UpStep, TakeStep, WroteStep, DownStep, entry_of_step}
use Rattle.senders.specs.Record.{DestRan}

-- the batches of the takes among these steps
abbrev pub batches_of : List WriterStep → List (List Datapoint)
batches_of [] = []
batches_of (UpStep ∷ steps) = batches_of steps
batches_of (TakeStep limit batch ∷ steps) = batch ∷ batches_of steps
batches_of (WroteStep count ∷ steps) = batches_of steps
batches_of (DownStep ∷ steps) = batches_of steps

-- those takes, each with its limit and its number of datapoints
abbrev pub takes_of : List WriterStep → List Batch
takes_of [] = []
takes_of (UpStep ∷ steps) = takes_of steps
takes_of (TakeStep limit batch ∷ steps) =
    record { limit = limit; taken = length batch } ∷ takes_of steps
takes_of (WroteStep count ∷ steps) = takes_of steps
takes_of (DownStep ∷ steps) = takes_of steps

-- a log that is not sealed has all steps, in order
abbrev pub UnsealedHasAllLaw : Type 0
UnsealedHasAllLaw =
    (limit : ℕ) (steps : List WriterStep) (log : WriterLog) → DestRan limit steps log
    → log.sealed ≡ false → log.entries ≡ map entry_of_step steps

-- and is one that a writer's batches allow
abbrev pub UnsealedIsWrittenLaw : Type 0
UnsealedIsWrittenLaw =
    (limit : ℕ) (steps : List WriterStep) (log : WriterLog) → DestRan limit steps log
    → log.sealed ≡ false → AreWritten fresh_writer log.entries (batches_of steps)

-- and has the takes
abbrev pub UnsealedHasTakesLaw : Type 0
UnsealedHasTakesLaw =
    (limit : ℕ) (steps : List WriterStep) (log : WriterLog) → DestRan limit steps log
    → log.sealed ≡ false → takes_in_log log.entries ≡ takes_of steps
