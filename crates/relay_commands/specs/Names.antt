-- What `relayd route --names` writes for a file of names.
use Rattle.std.specs.Prelude.{◌≡◌, ℕ, ◌+◌, ◌==◌, Bool, ◌||◌, List, [], ◌∷◌, ◌++◌, length, flat_map, codes, decimal, Option, Some, None, Result, Ok, Err, ◌⊎◌, if◌then◌else◌}
use Rattle.std.specs.List.{slice_split}
use Rattle.std.specs.Str.{bytes_eq}
use Rattle.std.specs.Io.KnownBytes.{Keeps}
use Rattle.relay_base.specs.Ascii.{newline}
use Rattle.relay_base.specs.White.{strip}
use Rattle.line_text.specs.Datapoint.{Datapoint}
use Rattle.line_text.specs.Name.{is_name}
use Rattle.conf_text.specs.Destination.{Destination}
use Rattle.router.specs.Plan.{Plan, Sent, sent_by}
use Rattle.relay_files.specs.declared.role.Role.TheVariants.{Names as TheNamesFile}
use Rattle.relay_files.specs.declared.source.Sources.{Sources}
use Rattle.relay_files.specs.declared.fault.RelayFault.{RelayFault}
use Rattle.relay_files.specs.declared.fault.RelayFault.TheVariants.{CannotRead, Output, NoMemory}
use Rattle.relay_files.specs.Files.{File, Unreadable, Bytes, Files}
use Rattle.relay_files.specs.Configuration.{◌>>=◌, Configuration, configuration_of}
use Rattle.relay_files.specs.Output.{GrowsByPart}
use Rattle.relay_files.specs.Faults.{Fails, EndsAt}
use Rattle.relay_commands.specs.Route.{sent_line, point_named}

-- a newline ends a line
abbrev pub is_newline : ℕ → Bool
is_newline b = b == newline

-- the lines of a text, the last one too
abbrev pub lines_in : List ℕ → List (List ℕ)
lines_in text = slice_split is_newline text

-- the lines of what is left of a text, if something is
abbrev pub lines_left : Option (List ℕ) → List (List ℕ)
lines_left None = []
lines_left (Some text) = lines_in text

-- ---- what is written for a line

-- a name and a space, if rewriting left another name or none
abbrev pub name_before : List ℕ → Option Datapoint → List ℕ
name_before name None = name ++ codes " "
name_before name (Some point) = if bytes_eq point.name name then [] else name ++ codes " "

-- the line of `route`, after the name if rewriting changed it
abbrev pub line_after_name : List ℕ → List Destination → Sent → List ℕ
line_after_name name dests sent = name_before name sent.point ++ sent_line dests sent

-- the line of a name
abbrev pub named_line : Plan → List Destination → List ℕ → List ℕ
named_line plan dests name = line_after_name name dests (sent_by plan (point_named name))

-- what is written for a line that says this: the line of a name, and nothing for anything else
abbrev pub name_text : Plan → List Destination → List ℕ → List ℕ
name_text plan dests name = if is_name name then named_line plan dests name else []

-- that a line has a bad name
abbrev pub bad_name_line : ℕ → List ℕ
bad_name_line number = codes "relayd: name: line " ++ decimal number ++ codes ": BadName\n"

-- what is noted for a line that says this: nothing for an empty line or a name
abbrev pub name_note : ℕ → List ℕ → List ℕ
name_note number name = if length name == 0 || is_name name then [] else bad_name_line number

-- ---- what is written for a text

-- the lines of its names, in order
abbrev pub names_text : Plan → List Destination → List (List ℕ) → List ℕ
names_text plan dests lines =
    flat_map (λ line. name_text plan dests (strip line)) lines

-- the notes of its bad names, in order; the first line has this number
abbrev pub names_notes : ℕ → List (List ℕ) → List ℕ
names_notes number [] = []
names_notes number (line ∷ lines) = name_note number (strip line) ++ names_notes (number + 1) lines

-- ---- what is written for files

-- the text of the file of names
abbrev pub names_in : File → Result (List ℕ) RelayFault
names_in Unreadable = Err (CannotRead TheNamesFile)
names_in (Bytes bytes) = Ok bytes

-- the lines of the names under a configuration
abbrev pub names_output : Configuration → List ℕ → List ℕ
names_output c text = names_text c.plan c.settings.routing.destinations (lines_in text)

-- the notes of a text, whose first line is line 1
abbrev pub notes_of_names : List ℕ → List ℕ
notes_of_names text = names_notes 1 (lines_in text)

-- what the command writes for files and a file of names, or their fault
abbrev pub names_answer : Files → File → Result (List ℕ) RelayFault
names_answer files file =
    configuration_of files >>= λ c. names_in file >>= λ text. Ok (names_output c text)

-- what it notes for them
abbrev pub names_notes_answer : Files → File → Result (List ℕ) RelayFault
names_notes_answer files file =
    configuration_of files >>= λ c. names_in file >>= λ text. Ok (notes_of_names text)

-- ---- its faults

-- a fault of the output, or out of memory
abbrev pub IsWriteFault : RelayFault → Type 0
IsWriteFault fault = (fault ≡ Output) ⊎ (fault ≡ NoMemory)

-- The names ended with such a fault, after a first part of the lines and a first part of the notes.
pub record EndsInNames (before after noted notes : Option (List ℕ)) (c : Configuration)
    (text : List ℕ) (fault : RelayFault) : Type 0 where
  pub lines : GrowsByPart before after (names_output c text)
  pub bad_names : GrowsByPart noted notes (notes_of_names text)
  pub is_fault : IsWriteFault fault

-- The fault is the first that the files have, and then that of the file of names, with nothing written; or the
-- command ended in the names.
pub data FailsNames {S N : Type 0} (old new : Sources S) (names given : N)
    (before after noted notes : Option (List ℕ)) (fault : RelayFault) (files : Files)
    (file : File) : Type 0 where
  AtFiles : EndsAt old new files fault → given ≡ names → Keeps before after → Keeps noted notes
      → FailsNames old new names given before after noted notes fault files file
  AtNames : (c : Configuration) → configuration_of files ≡ Ok c → Fails (names_in file) fault
      → Keeps before after → Keeps noted notes
      → FailsNames old new names given before after noted notes fault files file
  InNames : (c : Configuration) (text : List ℕ) → configuration_of files ≡ Ok c
      → names_in file ≡ Ok text
      → EndsInNames before after noted notes c text fault
      → FailsNames old new names given before after noted notes fault files file
