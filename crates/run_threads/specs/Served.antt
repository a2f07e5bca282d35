-- What the first thread writes while the others run.
use Rattle.std.specs.Prelude.{◌≡◌, ℕ, Bool, true, false, List, [], codes, Option, Result, Ok, Err}
use Rattle.std.specs.Io.KnownBytes.{Appends}
use Rattle.relay_files.specs.Output.{GrowsByPart}
use Rattle.relay_files.specs.declared.fault.RelayFault.{RelayFault}
use Rattle.relay_files.specs.declared.fault.RelayFault.TheVariants.{Output, NoMemory}

-- the line that says that all threads have begun
abbrev pub ready_line : List ℕ
ready_line = codes "ready\n"

-- what a run says once all its threads have begun: that they are ready, if no run was before it
abbrev pub opening : (is_first : Bool) → List ℕ
opening true = ready_line
opening false = []

-- a fault of the output or of memory
abbrev pub is_output_fault : RelayFault → Bool
is_output_fault Output = true
is_output_fault NoMemory = true
is_output_fault fault = false

-- what the first thread wrote while the others ran: its opening, or a first part of it
abbrev pub Served : (opening : List ℕ) → (before after : Option (List ℕ)) → Result (Unit {0}) RelayFault → Type 0
Served opening before after (Ok done) = Appends before after opening
Served opening before after (Err fault) =
    (is_output_fault fault ≡ true) × GrowsByPart before after opening
