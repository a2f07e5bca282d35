-- Reading a script: its readers and events, or the number of its first faulty line.
use Rattle.std.specs.Prelude.{ℕ, ◌+◌, Bool, true, false, not, ◌||◌, ◌==◌, nat_le, List, [], ◌∷◌, ◌++◌, length, map, Option, Some, None, Result, Ok, Err, if◌then◌else◌}
use Rattle.std.specs.List.{slice_split}
use Rattle.reader_core.specs.declared.kind.ReaderKind.{ReaderKind}
use Rattle.relay_base.specs.Ascii.{newline}
use Rattle.replay.specs.declared.script_fault.ScriptFault.{ScriptFault}
use Rattle.replay.specs.declared.script_fault.ScriptFault.TheVariants.{BadLine}
use Rattle.replay.specs.ScriptEvent.{NumberedEvent}
use Rattle.replay.specs.ScriptLine.{Meaning, Skipped, Reader, Event, Bad, meaning_of}

-- the kinds of the readers, which are numbered from 0, and the events
pub record ScriptText : Type 0 where
  pub kinds : List ReaderKind
  pub events : List NumberedEvent

-- what the lines of a text say
abbrev pub meanings_of : List ℕ → List Meaning
meanings_of text = map meaning_of (slice_split (λ b. b == newline) text)

-- the kinds of the readers that lines declare
abbrev pub kinds_of : List Meaning → List ReaderKind
kinds_of [] = []
kinds_of (Skipped ∷ lines) = kinds_of lines
kinds_of (Reader kind ∷ lines) = kind ∷ kinds_of lines
kinds_of (Event event ∷ lines) = kinds_of lines
kinds_of (Bad ∷ lines) = kinds_of lines

-- the events of lines that follow this many others
abbrev pub events_after : ℕ → List Meaning → List NumberedEvent
events_after before [] = []
events_after before (Skipped ∷ lines) = events_after (before + 1) lines
events_after before (Reader kind ∷ lines) = events_after (before + 1) lines
events_after before (Event event ∷ lines) =
    record { line = before + 1; event = event } ∷ events_after (before + 1) lines
events_after before (Bad ∷ lines) = events_after (before + 1) lines

-- what lines say
abbrev pub script_in : List Meaning → ScriptText
script_in lines = record { kinds = kinds_of lines; events = events_after 0 lines }

-- whether there are no readers, or no events
abbrev pub is_without_readers : ScriptText → Bool
is_without_readers script = length script.kinds == 0

abbrev pub is_without_events : ScriptText → Bool
is_without_events script = length script.events == 0

-- the most readers of a script
abbrev pub most_readers : ℕ
most_readers = 8192

-- whether a line is at fault after lines with these readers and events: readers come before events, and there may not
-- be too many
abbrev pub is_faulty : ScriptText → Meaning → Bool
is_faulty before Skipped = false
is_faulty before (Reader kind) =
    not (is_without_events before) || nat_le most_readers (length before.kinds)
is_faulty before (Event event) = is_without_readers before
is_faulty before Bad = true

-- the first fault among lines that follow those before
abbrev pub first_fault : List Meaning → List Meaning → Option ScriptFault
first_fault before [] = None
first_fault before (line ∷ lines) =
    if is_faulty (script_in before) line then Some (BadLine (length before + 1))
    else first_fault (before ++ line ∷ []) lines

-- the script, unless there is a fault; the fault of a script without a reader is at line 0
abbrev pub script_unless : Option ScriptFault → ScriptText → Result ScriptText ScriptFault
script_unless (Some fault) script = Err fault
script_unless None script = if is_without_readers script then Err (BadLine 0) else Ok script

-- what a script says
unfoldable pub script_of : List ℕ → Result ScriptText ScriptFault
script_of text = script_unless (first_fault [] (meanings_of text)) (script_in (meanings_of text))
