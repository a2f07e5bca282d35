-- The text of a script is read as the readers and the events that it was made of.
use Rattle.std.specs.Prelude.{ℕ, ◌≡◌, ◌≤◌, ◌<◌, ◌+◌, ◌^◌, List, [], ◌∷◌, length, All, Ok}
use Rattle.hex.specs.Hex.{IsBytes}
use Rattle.dest_queue.specs.declared.queue.TheConstants.{MOST_READERS}
use Rattle.line_text.specs.declared.moment.TheConstants.{LAST_TIME}
use Rattle.reader_core.specs.declared.kind.ReaderKind.{ReaderKind}
use Rattle.router.specs.Plan.{Plan}
use Rattle.relay_core.specs.World.{RunEvent, Piece, End, Offer, Take, Up, Wrote, Down}
use Rattle.relay_core.specs.Relay.{run_of}
use Rattle.replay.specs.RunText.{run_of_script}
use Rattle.replay.specs.ScriptEvent.{NumberedEvent}
use Rattle.replay.specs.ScriptText.{ScriptText, script_of}
use Rattle.run_record.specs.ScriptLines.{script_text}

-- ---- what the form has room for

-- a number has at most sixteen digits
abbrev pub IsShort : ℕ → Type 0
IsShort n = n < 10 ^ 16

-- a piece of a reader: it has a byte
pub record IsPiece (reader : ℕ) (bytes : List ℕ) (moment : ℕ) : Type 0 where
  pub short : IsShort reader
  pub some : 0 < length bytes
  pub are_bytes : IsBytes bytes
  pub in_time : moment ≤ LAST_TIME

abbrev pub IsWritable : RunEvent → Type 0
IsWritable (Piece reader bytes moment) = IsPiece reader bytes moment
IsWritable (End reader) = IsShort reader
IsWritable (Offer reader) = IsShort reader
IsWritable (Take dest) = IsShort dest
IsWritable (Up dest) = IsShort dest
IsWritable (Wrote dest count) = IsShort dest × IsShort count
IsWritable (Down dest) = IsShort dest

-- there is a reader and not too many, and each event has a line
pub record AreWritable (kinds : List ReaderKind) (events : List RunEvent) : Type 0 where
  pub some : 1 ≤ length kinds
  pub few : length kinds ≤ MOST_READERS
  pub each : All IsWritable events

-- ---- what is read of it

-- events, whose lines follow this many others
abbrev pub numbered_after : ℕ → List RunEvent → List NumberedEvent
numbered_after before [] = []
numbered_after before (event ∷ events) =
    record { line = before + 1; event = event } ∷ numbered_after (before + 1) events

abbrev pub script_with : List ReaderKind → List RunEvent → ScriptText
script_with kinds events =
    record { kinds = kinds; events = numbered_after (length kinds) events }

-- ---- the laws

abbrev pub ReadsBackLaw : Type 0
ReadsBackLaw =
    (kinds : List ReaderKind) (events : List RunEvent) → AreWritable kinds events
    → script_of (script_text kinds events) ≡ Ok (script_with kinds events)

abbrev pub RunsSameLaw : Type 0
RunsSameLaw =
    (plan : Plan) (size limit : ℕ) (kinds : List ReaderKind) (events : List RunEvent)
    → run_of_script plan size limit (script_with kinds events) ≡ run_of plan size limit kinds events
