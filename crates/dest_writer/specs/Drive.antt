-- How a drive of a writer ends, and what it leaves.
use Rattle.std.specs.Prelude.{◌≡◌, ◌≢◌, ◌≤◌, ◌<◌, ◌+◌, ℕ, Bool, true, false, ◌==◌, if◌then◌else◌, Option, List}
use Rattle.std.specs.Io.KnownBytes.{Appends}
use Rattle.dest_writer.specs.Calls.{CountedCalls}
use Rattle.dest_writer.specs.declared.counting.Outcome.{Outcome}
use Rattle.dest_writer.specs.declared.counting.Outcome.TheVariants as outcome
use Rattle.dest_writer.specs.declared.driven.Driven.{Driven}
use Rattle.dest_writer.specs.declared.driven.Driven.TheVariants.{Idle, Blocked, Again, Failed}
use Rattle.dest_writer.specs.Counting.{counts_after, raised_by, Rose}
use Rattle.dest_writer.specs.Writer.{WriterState, left, bytes_written, writer_after_write}

-- one step of the machine: the connection took this many of the next bytes, and no others
pub record Writes (count : ℕ) (old new : WriterState)
    (before after : Option (List ℕ)) : Type 0 where
  pub within : count ≤ left old
  pub step : new ≡ writer_after_write count old
  pub bytes : Appends before after (bytes_written count old)

-- how a drive ends by its last write, if some of the text is left
abbrev pub driven_by : Outcome → Driven
driven_by outcome.Moved = Again
driven_by outcome.Interrupted = Again
driven_by outcome.WouldBlock = Blocked
driven_by outcome.Failed = Failed

-- how a drive ends that leaves this many bytes: by its last write only if some are left
abbrev pub driven_of : ℕ → Outcome → Driven
driven_of bytes last = if bytes == 0 then Idle else driven_by last

-- whether a drive goes on after a write with this outcome
abbrev pub goes_on : Outcome → Bool
goes_on outcome.Moved = true
goes_on outcome.Interrupted = true
goes_on outcome.WouldBlock = false
goes_on outcome.Failed = false

-- the most writes of one drive
abbrev pub most_writes : ℕ
most_writes = 16

-- a drive ended so: the connection took this many of the next bytes, and no others, in at most 16 writes
pub record Drives (driven : Driven) (count : ℕ) (old new : WriterState) (before after : CountedCalls)
    (reported_before reported_after : Option (List ℕ)) : Type 0 where
  pub writes : Writes count old new reported_before reported_after
  -- it ended by the outcome of the last write, if some bytes are left
  pub answer : driven ≡ driven_of (left new) after.last
  -- it made at most 16 writes, at least one if something was left, and all 16 if it is to go on
  pub counted : before.calls ≤ after.calls
  pub calls : after.calls ≤ before.calls + most_writes
  pub tried : 0 < left old → Rose before.calls after.calls
  pub again : driven ≡ Again → after.calls ≡ raised_by most_writes before.calls
  -- a failure ended it, and only a failure is answered `Failed`
  pub failed : driven ≡ Failed → Rose before.failures after.failures
  pub not_failed : driven ≢ Failed → after.failures ≡ before.failures

-- ---- inside a drive

-- one write, of which the connection took this many bytes
pub record WritesOnce (count : ℕ) (old new : WriterState) (before after : CountedCalls)
    (reported_before reported_after : Option (List ℕ)) : Type 0 where
  pub writes : Writes count old new reported_before reported_after
  pub counts : after ≡ counts_after after.last before
  pub stopped : goes_on after.last ≡ false → count ≡ 0

-- a number of writes, none of which blocked or failed, and of which the connection took `count` bytes
pub record HasDriven (made count : ℕ) (old new : WriterState) (before after : CountedCalls)
    (reported_before reported_after : Option (List ℕ)) : Type 0 where
  pub writes : Writes count old new reported_before reported_after
  pub some : 0 < count → 0 < made
  pub calls : after.calls ≡ raised_by made before.calls
  pub counted : before.calls ≤ after.calls
  pub failures : after.failures ≡ before.failures
  pub last : 0 < made → goes_on after.last ≡ true
