-- What the log of a writer has, and when a writer allows it.
use Rattle.std.specs.Prelude.{ℕ, ◌≡◌, ◌≤◌, true, false, List, [], ◌∷◌}
use Rattle.line_text.specs.Datapoint.{Datapoint}
use Rattle.dest_writer.specs.Writer.{WriterState, wants_batch, left, writer_after_up, writer_after_take, writer_after_write, writer_after_down}

-- what a writer's log has; takes that found nothing are left out, as a history leaves them out
pub data LogEntry : Type 0 where
  -- there was a new connection
  UpEntry : LogEntry
  -- a batch was taken: with this limit, this number of datapoints
  TakeEntry : (limit : ℕ) (taken : ℕ) → LogEntry
  -- the connection took this number of bytes
  WroteEntry : (count : ℕ) → LogEntry
  -- the connection was lost
  DownEntry : LogEntry

-- ---- takes

-- a take, with its limit and its number of datapoints
pub record Batch : Type 0 where
  pub limit : ℕ
  pub taken : ℕ

-- the takes of a log
abbrev pub takes_in_log : List LogEntry → List Batch
takes_in_log [] = []
takes_in_log (TakeEntry limit taken ∷ log) =
    record { limit = limit; taken = taken } ∷ takes_in_log log
takes_in_log (UpEntry ∷ log) = takes_in_log log
takes_in_log (WroteEntry count ∷ log) = takes_in_log log
takes_in_log (DownEntry ∷ log) = takes_in_log log

-- ---- what a writer allows

-- each entry of a writer's log is allowed after those before it, if its takes get these batches
abbrev pub AreWritten : WriterState → List LogEntry → List (List Datapoint) → Type 0
AreWritten w [] handed = Unit {0}
AreWritten w (UpEntry ∷ log) handed =
    (w.up ≡ false) × AreWritten (writer_after_up w) log handed
AreWritten w (TakeEntry limit taken ∷ log) [] = ⊥
AreWritten w (TakeEntry limit taken ∷ log) (points ∷ handed) =
    (wants_batch w ≡ true) × AreWritten (writer_after_take points w) log handed
AreWritten w (WroteEntry count ∷ log) handed =
    (w.up ≡ true) × (count ≤ left w) × AreWritten (writer_after_write count w) log handed
AreWritten w (DownEntry ∷ log) handed =
    (w.up ≡ true) × AreWritten (writer_after_down w) log handed
