-- What is left to be sent to a destination, by the lines that its connections took.
use Rattle.std.specs.Prelude.{ℕ, ◌≡◌, ◌+◌, ◌==◌, List, length, count_by, flat_map}
use Rattle.std.specs.List.{AllByRecursion}
use Rattle.relay_base.specs.Ascii.{newline}
use Rattle.line_text.specs.Datapoint.{Datapoint}
use Rattle.line_text.specs.Laws.{IsDatapoint}
use Rattle.dest_queue.specs.Queue.{Queue}
use Rattle.dest_queue.specs.Balance.{IsBalanced}
use Rattle.dest_writer.specs.Writer.{WriterState, fresh_writer, unfinished_points}
use Rattle.mio_loops.specs.WriterSteps.{WriterStep, AreAllowed, writer_after_steps, bytes_of_steps}
use Rattle.senders.specs.Laws.{batches_of}

-- the datapoints that a writer took in hand by these steps
abbrev pub points_taken : List WriterStep → List Datapoint
points_taken steps = flat_map (λ batch. batch) (batches_of steps)

-- how many bytes 10 there are
abbrev pub newlines_in : List ℕ → ℕ
newlines_in bytes = count_by (λ b. b == newline) bytes

-- how many datapoints are queued, or in hand with their last byte not taken
abbrev pub unsent : Queue → WriterState → ℕ
unsent q w = length q.points + length (unfinished_points w.written w.hand)

-- What a queue kept are the bytes 10 in what the destination's connections took, and what is unsent: if the writer took
-- in hand what left the queue, and this is datapoints as the code has them.
abbrev pub UnsentLaw : Type 0
UnsentLaw =
    (size : ℕ) (q : Queue) (steps : List WriterStep) → IsBalanced size q
    → AreAllowed steps fresh_writer → AllByRecursion IsDatapoint (points_taken steps)
    → q.taken ≡ length (points_taken steps)
    → q.kept
    ≡ newlines_in (bytes_of_steps steps fresh_writer)
    + unsent q (writer_after_steps steps fresh_writer)
