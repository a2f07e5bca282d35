-- One line more: what it does to the script that the lines before it tell.
use Rattle.std.specs.Prelude.{ℕ, [], ◌∷◌, ◌++◌, Result, Ok, Err, if◌then◌else◌}
use Rattle.replay.specs.declared.script_fault.ScriptFault.{ScriptFault}
use Rattle.replay.specs.declared.script_fault.ScriptFault.TheVariants.{BadLine}
use Rattle.replay.specs.ScriptLine.{Meaning, Skipped, Reader, Event, Bad}
use Rattle.replay.specs.ScriptText.{ScriptText, is_faulty}

-- the script after the line of this number, which is not at fault
abbrev pub after_line : ScriptText → ℕ → Meaning → ScriptText
after_line before number Skipped = before
after_line before number (Reader kind) = record before { kinds = before.kinds ++ kind ∷ [] }
after_line before number (Event event) =
    record before { events = before.events ++ record { line = number; event = event } ∷ [] }
after_line before number Bad = before

-- the script after a line, or that the line is at fault
abbrev pub line_gives : ScriptText → ℕ → Meaning → Result ScriptText ScriptFault
line_gives before number line =
    if is_faulty before line then Err (BadLine number) else Ok (after_line before number line)
