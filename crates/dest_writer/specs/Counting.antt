-- What the calls of a reader or a writer come to, and how they are counted.
use Rattle.std.specs.Prelude.{◌≡◌, ◌⊎◌, ◌<◌, ℕ, ◌+◌, ◌-◌, ◌^◌, min, Bool, nat_lt, ◌==◌, ◌&&◌, true, false, if◌then◌else◌, Result, Ok, Err}
use Rattle.std.specs.declared.io.Error.{Error}
use Rattle.std.specs.declared.io.ErrorKind.{ErrorKind}
use Rattle.std.specs.declared.io.ErrorKind.TheVariants as kind
use Rattle.std.specs.IoError.{error_kind}
use Rattle.dest_writer.specs.Calls.{CountedCalls, greatest_count}
use Rattle.dest_writer.specs.declared.counting.Counting.{Counting}
use Rattle.dest_writer.specs.declared.counting.Outcome.{Outcome}
use Rattle.dest_writer.specs.declared.counting.Outcome.TheVariants.{Moved, WouldBlock, Interrupted, Failed}

-- an error is a failure but for two kinds
abbrev pub outcome_of_kind : ErrorKind → Outcome
outcome_of_kind kind.WouldBlock = WouldBlock
outcome_of_kind kind.Interrupted = Interrupted
outcome_of_kind _ = Failed

abbrev pub outcome_of_call : {A : Type 0} → Result A Error → Outcome
outcome_of_call (Ok answer) = Moved
outcome_of_call (Err error) = outcome_of_kind (error_kind error)

-- a write that takes nothing of some bytes is a failure too
abbrev pub outcome_of_count : ℕ → ℕ → Outcome
outcome_of_count wanted count = if nat_lt 0 wanted && (count == 0) then Failed else Moved

-- how a write of this many bytes ends
abbrev pub outcome_of_write : ℕ → Result ℕ Error → Outcome
outcome_of_write wanted (Ok count) = outcome_of_count wanted count
outcome_of_write wanted (Err error) = outcome_of_kind (error_kind error)

abbrev pub is_failure : Outcome → Bool
is_failure Failed = true
is_failure Moved = false
is_failure WouldBlock = false
is_failure Interrupted = false

-- a count rose by this many, as far as can be counted
abbrev pub raised_by : ℕ → ℕ → ℕ
raised_by more count = min (count + more) greatest_count

-- the counts after one more call that ended so
abbrev pub counts_after : Outcome → CountedCalls → CountedCalls
counts_after outcome c =
    record {
      calls = raised_by 1 c.calls;
      failures = if is_failure outcome then raised_by 1 c.failures else c.failures;
      last = outcome;
    }

-- a count rose, or is the greatest already
abbrev pub Rose : ℕ → ℕ → Type 0
Rose old new = (old < new) ⊎ (new ≡ greatest_count)

-- ---- what clauses see of a `Counting`

module _ {S : Type 0} where
  -- the reader or writer inside
  abbrev pub stream_of : Counting S → S
  stream_of c = c.stream

  abbrev pub counts_of : Counting S → CountedCalls
  counts_of c = c.counts
