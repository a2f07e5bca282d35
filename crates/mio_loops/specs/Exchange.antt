-- What a read or a write of a connection did.
use Rattle.std.specs.Prelude.{ℕ, ◌==◌, if◌then◌else◌}
use Rattle.dest_writer.specs.declared.counting.Outcome.{Outcome}
use Rattle.dest_writer.specs.declared.counting.Outcome.TheVariants as outcome
use Rattle.mio_loops.specs.declared.exchange.Transfer.{Transfer}
use Rattle.mio_loops.specs.declared.exchange.Transfer.TheVariants.{Bytes, End, Blocked, Failed}

-- no byte is the end
abbrev pub moved : ℕ → Transfer
moved count = if count == 0 then End else Bytes count

-- with an error; after an interruption it is to be tried again
abbrev pub not_moved : Outcome → Transfer
not_moved outcome.Interrupted = Bytes 0
not_moved outcome.WouldBlock = Blocked
not_moved outcome.Moved = Failed
not_moved outcome.Failed = Failed
