-- What `relayd pass` writes for the bytes of its input, which are one connection of one moment.
use Rattle.std.specs.Prelude.{◌≡◌, ℕ, Bool, List, [], ◌++◌, ◌⊎◌, codes, decimal, if◌then◌else◌, ◌==◌, Option}
use Rattle.std.specs.Io.KnownBytes.{Appends, Consumes}
use Rattle.line_text.specs.Datapoint.{Datapoint}
use Rattle.line_text.specs.Line.{count_of}
use Rattle.line_text.specs.Connection.{arrivals, accepted_points, bad_lines, is_closed}
use Rattle.line_text.specs.Print.{printed_lines}
use Rattle.line_text.specs.Reader.{ReaderModel, Represents}
use Rattle.relay_files.specs.declared.fault.RelayFault.{RelayFault}
use Rattle.relay_files.specs.declared.fault.RelayFault.TheVariants.{Input, Output, NoMemory}
use Rattle.relay_files.specs.Output.{GrowsByPart}
use Rattle.pass_lines.specs.declared.write_fault.WriteFault.{WriteFault}
use Rattle.pass_lines.specs.declared.write_fault.WriteFault.TheVariants as write

-- the printed lines of the accepted datapoints of the whole input
abbrev pub pass_text : List ℕ → ℕ → List ℕ
pass_text bytes moment = printed_lines (accepted_points (arrivals bytes moment))

-- the note that a line was too long, if one was
abbrev pub too_long_note : Bool → List ℕ
too_long_note too_long = if too_long then codes "line too long\n" else []

-- the note of how many lines were bad, if any were
abbrev pub bad_lines_note : ℕ → List ℕ
bad_lines_note count = if count == 0 then [] else codes "bad lines " ++ decimal count ++ codes "\n"

-- the notes of a connection, that of a long line first
abbrev pub note_of_end : Bool → ℕ → List ℕ
note_of_end too_long count = too_long_note too_long ++ bad_lines_note count

abbrev pub notes_text : List ℕ → ℕ → List ℕ
notes_text bytes moment =
    note_of_end (is_closed (arrivals bytes moment)) (count_of (bad_lines (arrivals bytes moment)))

-- why a datapoint was not written, as a fault of the command
abbrev pub write_fault : WriteFault → RelayFault
write_fault write.Output = Output
write_fault write.NoMemory = NoMemory

-- the faults that `pass` ends with
abbrev pub IsPassFault : RelayFault → Type 0
IsPassFault fault = (fault ≡ Input) ⊎ (fault ≡ Output) ⊎ (fault ≡ NoMemory)

-- a writer's known bytes grow by the lines of the datapoints that are added to those before
abbrev pub Relays : Option (List ℕ) → Option (List ℕ) → List Datapoint → List Datapoint → Type 0
Relays old new before after =
    (gained : List Datapoint) × (after ≡ before ++ gained) × Appends old new (printed_lines gained)

-- the same, or they grow by a first part of these lines
abbrev pub RelaysPart : Option (List ℕ) → Option (List ℕ) → List Datapoint → List Datapoint → Type 0
RelaysPart old new before after = (gained : List Datapoint) × (after ≡ before ++ gained)
    × GrowsByPart old new (printed_lines gained)

-- some bytes were read, the reader represents them, and their lines were written
pub record HasPassed (r s w v : Option (List ℕ)) (reader : ReaderModel) (moment : ℕ)
    (bytes : List ℕ) : Type 0 where
  pub represents : Represents reader (arrivals bytes moment)
  pub read : Consumes r s bytes
  pub written : Appends w v (pass_text bytes moment)
