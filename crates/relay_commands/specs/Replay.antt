-- What `replay` writes for files and a script, and how it fails.
use Rattle.std.specs.Prelude.{◌≡◌, ◌⊎◌, List, ℕ, Option, Result, Ok, Err}
use Rattle.std.specs.Io.KnownBytes.{Keeps}
use Rattle.replay.specs.ScriptText.{ScriptText, script_of}
use Rattle.replay.specs.RunText.{replay_text}
use Rattle.replay.specs.LinesRun.{lines_text}
use Rattle.replay.specs.declared.handed_form.HandedForm.{HandedForm}
use Rattle.relay_files.specs.declared.role.Role.TheVariants.{Script as TheScript}
use Rattle.relay_files.specs.declared.source.Sources.{Sources}
use Rattle.relay_files.specs.declared.fault.RelayFault.{RelayFault}
use Rattle.relay_files.specs.declared.fault.RelayFault.TheVariants.{Script, NoMemory, CannotRead}
use Rattle.replay.specs.declared.script_fault.ScriptFault.{ScriptFault}
use Rattle.replay.specs.declared.script_fault.ScriptFault.TheVariants as script
use Rattle.relay_files.specs.Files.{File, Unreadable, Bytes, Files}
use Rattle.relay_files.specs.Configuration.{Configuration, ◌>>=◌, with_fault, configuration_of, text_in}
use Rattle.relay_files.specs.Output.{OutputFails}
use Rattle.relay_files.specs.Faults.{Fails, EndsAt}

-- the fault of a command for a fault of its script
abbrev pub script_fault : ScriptFault → RelayFault
script_fault (script.BadLine line) = Script line
script_fault script.NoMemory = NoMemory

-- the script of a file
abbrev pub script_in : File → Result ScriptText RelayFault
script_in file = text_in TheScript file >>= λ text. with_fault script_fault (script_of text)

-- the lines of a file that is read in place of a script
abbrev pub lines_in : File → Result (List ℕ) RelayFault
lines_in Unreadable = Err (CannotRead TheScript)
lines_in (Bytes lines) = Ok lines

-- the text of a configuration and a script, or lines
abbrev pub text_of_replay : HandedForm → Configuration → ScriptText → List ℕ
text_of_replay form c script =
    replay_text form c.plan c.settings.sending.max_queue_size
    c.settings.sending.max_datapoints_per_message c.settings.routing.destinations script

abbrev pub text_of_lines : HandedForm → Configuration → List ℕ → List ℕ
text_of_lines form c lines =
    lines_text form c.plan c.settings.sending.max_queue_size
    c.settings.sending.max_datapoints_per_message c.settings.routing.destinations lines

-- what the command writes for files and a script, or lines, or their fault: that of the files is first
abbrev pub replay_answer : HandedForm → Files → File → Result (List ℕ) RelayFault
replay_answer form files file =
    configuration_of files >>= λ c. script_in file >>= λ script. Ok (text_of_replay form c script)

abbrev pub replay_lines_answer : HandedForm → Files → File → Result (List ℕ) RelayFault
replay_lines_answer form files file =
    configuration_of files >>= λ c. lines_in file >>= λ lines. Ok (text_of_lines form c lines)

-- The fault is the first that the files have, and then the script was not opened; or that of the script; or memory ran
-- out in the replay. The same holds for lines.
pub data EndsAtScript {S T X : Type 0} (old new : Sources S) (given left : T)
    (fault : RelayFault) (files : Files) (script : Result X RelayFault) : Type 0 where
  AtFiles : EndsAt old new files fault → left ≡ given
      → EndsAtScript old new given left fault files script
  AtScript : (c : Configuration) → configuration_of files ≡ Ok c → Fails script fault
      → EndsAtScript old new given left fault files script
  InReplay : (c : Configuration) (x : X) → configuration_of files ≡ Ok c
      → script ≡ Ok x → fault ≡ NoMemory
      → EndsAtScript old new given left fault files script

-- with nothing written, or its output failed
abbrev pub FailsReplay : {S T X : Type 0} → Sources S → Sources S → T → T → Option (List ℕ)
    → Option (List ℕ) → RelayFault → Files → Result X RelayFault → Result (List ℕ) RelayFault
    → Type 0
FailsReplay old new given left before after fault files script answer =
    (EndsAtScript old new given left fault files script × Keeps before after)
    ⊎ OutputFails before after answer fault
