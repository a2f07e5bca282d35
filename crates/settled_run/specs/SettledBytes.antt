-- What the connections of a destination got in the run of a relay that has settled.
use Rattle.std.specs.Prelude.{ℕ, ◌≡◌, ◌<◌, List, [], ◌∷◌, ◌++◌, length, slice_get, Some}
use Rattle.dest_writer.specs.Writer.{WriterState, fresh_writer, bytes_written, writer_after_up, writer_after_take, writer_after_write, writer_after_down}
use Rattle.router.specs.Plan.{Plan}
use Rattle.reader_core.specs.Kinds.{relay_reading}
use Rattle.relay_core.specs.Destination.{with_more_bytes}
use Rattle.relay_core.specs.Run.{dest_in}
use Rattle.mio_loops.specs.WriterSteps.{WriterStep, UpStep, TakeStep, WroteStep, DownStep}
use Rattle.senders.specs.Steps.{steps_at}
use Rattle.settled_run.specs.Settled.{QueuesSettled, run_in}
use Rattle.settled_run.specs.SettledParts.{SenderLeft, RelayLeft, owner_in}
use Rattle.settled_run.specs.SettledThreads.{ThreadsPromise}

-- what each connection got, the newest last, if a writer does these steps
abbrev pub connections_of : List WriterStep → WriterState → List (List ℕ) → List (List ℕ)
connections_of [] w connections = connections
connections_of (UpStep ∷ steps) w connections =
    connections_of steps (writer_after_up w) (connections ++ [] ∷ [])
connections_of (TakeStep limit batch ∷ steps) w connections =
    connections_of steps (writer_after_take batch w) connections
connections_of (WroteStep count ∷ steps) w connections =
    connections_of steps (writer_after_write count w)
    (with_more_bytes (bytes_written count w) connections)
connections_of (DownStep ∷ steps) w connections =
    connections_of steps (writer_after_down w) connections

-- in the run each connection of a destination got what its sender's steps wrote
abbrev pub SettledBytesLaw : Type 0
SettledBytesLaw =
    (plan : Plan) (size limit : ℕ) (x : RelayLeft) (queues : QueuesSettled size x)
    (promises : ThreadsPromise plan size limit x)
    (d : ℕ) → d < length x.histories → (s : SenderLeft)
    → (at : slice_get x.senders (owner_in x d) ≡ Some s)
    → (dest_in relay_reading (run_in plan size limit x queues) d).connections
    ≡ connections_of (steps_at d (promises.senders (owner_in x d) s at).ran.steps) fresh_writer []
