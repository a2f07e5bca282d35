-- What a writer does, step by step, with the batches that it takes, and what that leaves.
use Rattle.std.specs.Prelude.{ℕ, ◌≡◌, ◌<◌, ◌≤◌, true, false, List, [], ◌∷◌, ◌++◌, length, Option}
use Rattle.std.specs.Io.KnownBytes.{Appends}
use Rattle.line_text.specs.Datapoint.{Datapoint}
use Rattle.dest_writer.specs.Writer.{WriterState, wants_batch, left, bytes_written, writer_after_up, writer_after_take, writer_after_write, writer_after_down}
use Rattle.dest_writer.specs.Log.{LogEntry, UpEntry, TakeEntry, WroteEntry, DownEntry}
use Rattle.queue_records.specs.Takes.{TakesMade, after_take}
use Rattle.mio_loops.specs.WriterLog.{WriterLog, log_after}

pub data WriterStep : Type 0 where
  -- a connection was there
  UpStep : WriterStep
  -- these datapoints were taken in hand, with at most the limit asked for
  TakeStep : (limit : ℕ) (batch : List Datapoint) → WriterStep
  -- the connection took the next bytes, this many
  WroteStep : (count : ℕ) → WriterStep
  -- the connection was lost
  DownStep : WriterStep

-- ---- one step

-- what a log says of it
abbrev pub entry_of_step : WriterStep → LogEntry
entry_of_step UpStep = UpEntry
entry_of_step (TakeStep limit batch) = TakeEntry limit (length batch)
entry_of_step (WroteStep count) = WroteEntry count
entry_of_step DownStep = DownEntry

-- a connection if there is none, some datapoints if a batch is wanted, some bytes if they are left
abbrev pub IsAllowed : WriterStep → WriterState → Type 0
IsAllowed UpStep w = w.up ≡ false
IsAllowed (TakeStep limit batch) w =
    (wants_batch w ≡ true) × (0 < length batch) × (length batch ≤ limit)
IsAllowed (WroteStep count) w = (w.up ≡ true) × (0 < count) × (count ≤ left w)
IsAllowed DownStep w = w.up ≡ true

-- what it leaves of the writer
abbrev pub writer_after_step : WriterStep → WriterState → WriterState
writer_after_step UpStep w = writer_after_up w
writer_after_step (TakeStep limit batch) w = writer_after_take batch w
writer_after_step (WroteStep count) w = writer_after_write count w
writer_after_step DownStep w = writer_after_down w

-- the bytes that the connection gets by it
abbrev pub bytes_of_step : WriterStep → WriterState → List ℕ
bytes_of_step UpStep w = []
bytes_of_step (TakeStep limit batch) w = []
bytes_of_step (WroteStep count) w = bytes_written count w
bytes_of_step DownStep w = []

-- what a supply has recorded after it, if it is a step of this destination
abbrev pub record_after_step : ℕ → WriterStep → TakesMade → TakesMade
record_after_step dest UpStep made = made
record_after_step dest (TakeStep limit batch) made = after_take dest limit (length batch) made
record_after_step dest (WroteStep count) made = made
record_after_step dest DownStep made = made

-- ---- one step after another

-- each is allowed after those before it
abbrev pub AreAllowed : List WriterStep → WriterState → Type 0
AreAllowed [] w = Unit {0}
AreAllowed (step ∷ steps) w = IsAllowed step w × AreAllowed steps (writer_after_step step w)

abbrev pub writer_after_steps : List WriterStep → WriterState → WriterState
writer_after_steps [] w = w
writer_after_steps (step ∷ steps) w = writer_after_steps steps (writer_after_step step w)

abbrev pub bytes_of_steps : List WriterStep → WriterState → List ℕ
bytes_of_steps [] w = []
bytes_of_steps (step ∷ steps) w =
    bytes_of_step step w ++ bytes_of_steps steps (writer_after_step step w)

abbrev pub log_after_steps : List WriterStep → WriterLog → WriterLog
log_after_steps [] log = log
log_after_steps (step ∷ steps) log = log_after_steps steps (log_after (entry_of_step step) log)

abbrev pub record_after_steps : ℕ → List WriterStep → TakesMade → TakesMade
record_after_steps dest [] made = made
record_after_steps dest (step ∷ steps) made =
    record_after_steps dest steps (record_after_step dest step made)

-- ---- a writer, with its log, its supply's record and its bytes

pub record WriterSide : Type 0 where
  pub writer : WriterState
  pub log : WriterLog
  -- what the supply has recorded
  pub made : TakesMade
  -- the bytes that the connection got, if they are known
  pub reported : Option (List ℕ)

-- one list of steps leads from one to the other, in all four
pub record LeadTo (dest : ℕ) (steps : List WriterStep) (old new : WriterSide) : Type 0 where
  pub allowed : AreAllowed steps old.writer
  pub writer : new.writer ≡ writer_after_steps steps old.writer
  pub log : new.log ≡ log_after_steps steps old.log
  pub made : new.made ≡ record_after_steps dest steps old.made
  pub reported : Appends old.reported new.reported (bytes_of_steps steps old.writer)

-- steps that lead on from where others led are one list with them
abbrev pub StepsAddUpLaw : Type 0
StepsAddUpLaw =
    (dest : ℕ) (a b : List WriterStep) (x y z : WriterSide) → LeadTo dest a x y → LeadTo dest b y z
    → LeadTo dest (a ++ b) x z

-- ---- a writer from the first step on

-- if nothing is left, there is nothing in hand
pub record HoldsOnlyUnwritten (w : WriterState) : Type 0 where
  pub hand : left w ≡ 0 → w.hand ≡ []
  pub written : left w ≡ 0 → w.written ≡ 0

-- steps that are allowed keep that
abbrev pub HoldsOnlyUnwrittenLaw : Type 0
HoldsOnlyUnwrittenLaw =
    (steps : List WriterStep) (w : WriterState) → HoldsOnlyUnwritten w → AreAllowed steps w
    → HoldsOnlyUnwritten (writer_after_steps steps w)
