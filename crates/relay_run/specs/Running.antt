-- What a run writes, and how it ends.
use Rattle.std.specs.Prelude.{◌≡◌, ◌⊎◌, ℕ, true, List, [], ◌∷◌, ◌++◌, Option, Some, None, Result, Ok}
use Rattle.std.specs.Io.KnownBytes.{Appends, Keeps}
use Rattle.locked_queues.specs.declared.settled.Settled.{Settled}
use Rattle.locked_queues.specs.declared.settled.SettleFault.{SettleFault}
use Rattle.mio_loops.specs.declared.readiness.ReadinessFault.{ReadinessFault}
use Rattle.mio_loops.specs.declared.readiness.ReadinessFault.TheVariants as readiness
use Rattle.relay_files.specs.Configuration.{Configuration, configuration_of}
use Rattle.relay_files.specs.Faults.{EndsAt}
use Rattle.relay_files.specs.Files.{Files}
use Rattle.relay_files.specs.Output.{GrowsByPart}
use Rattle.relay_files.specs.declared.fault.RelayFault.{RelayFault}
use Rattle.relay_files.specs.declared.fault.RelayFault.TheVariants.{NoMemory}
use Rattle.relay_files.specs.declared.fault.Status.{Status}
use Rattle.relay_files.specs.declared.source.Sources.{Sources}
use Rattle.relay_ports.specs.StartFault.{is_start_fault}
use Rattle.run_threads.specs.Served.{ready_line, is_output_fault}
use Rattle.relay_run.specs.Closing.{closing_line, closing_status, input_fault, output_fault}

-- all that a run writes that begins so, and settles so
abbrev pub run_text : (opening : List ℕ) → Result Settled SettleFault → List ℕ
run_text opening settled = opening ++ closing_line settled

-- ---- the fault of a run whose threads have ended

-- that of a receiver whose plan could not be made again: memory ran out, or else its rules were refused
abbrev pub fault_of_plan : RelayFault → ReadinessFault
fault_of_plan NoMemory = readiness.NoMemory
fault_of_plan fault = readiness.Device

-- the first fault of a list
abbrev pub first_fault : List (Option ReadinessFault) → Option ReadinessFault
first_fault [] = None
first_fault (None ∷ faults) = first_fault faults
first_fault (Some fault ∷ faults) = Some fault

-- that of a receiver, and if there is none, that of a sender
abbrev pub receiver_or_sender : Option ReadinessFault → Option ReadinessFault → Option RelayFault
receiver_or_sender (Some fault) sender = Some (input_fault fault)
receiver_or_sender None (Some fault) = Some (output_fault fault)
receiver_or_sender None None = None

-- the fault of the first receiver that has one, and if none has, that of the first sender
abbrev pub thread_fault : (receivers senders : List (Option ReadinessFault)) → Option RelayFault
thread_fault receivers senders = receiver_or_sender (first_fault receivers) (first_fault senders)

-- ---- a run whose files are a configuration

-- the fault of some threads
abbrev pub IsThreadFault : Option RelayFault → Type 0
IsThreadFault fault =
    (receivers : List (Option ReadinessFault)) × (senders : List (Option ReadinessFault))
    × (fault ≡ thread_fault receivers senders)

-- a run fails before it closes: before its opening, with nothing written, or with a first part of the opening written
abbrev pub FailsBeforeClosing : (opening : List ℕ) → (before after : Option (List ℕ)) → RelayFault → Type 0
FailsBeforeClosing opening before after fault =
    ((is_start_fault fault ≡ true) × Keeps before after)
    ⊎ ((is_output_fault fault ≡ true) × GrowsByPart before after opening)

-- the closing line was not written whole; or it was, and a thread had this fault
abbrev pub ClosesWith : (before after : Option (List ℕ)) → Result Settled SettleFault
    → Option RelayFault → RelayFault → Type 0
ClosesWith before after settled thread fault =
    ((is_output_fault fault ≡ true) × GrowsByPart before after (closing_line settled))
    ⊎ ((thread ≡ Some fault) × Appends before after (closing_line settled))

-- a run ends with a status: it has written its opening and how it settled, and the status is that of the same settling
pub record RunEnds (opening : List ℕ) (before after : Option (List ℕ)) (status : Status) : Type 0 where
  pub settled : Result Settled SettleFault
  pub wrote : Appends before after (run_text opening settled)
  pub says : status ≡ closing_status settled

-- a run ends with a fault
pub data RunFails (opening : List ℕ) (before after : Option (List ℕ)) (fault : RelayFault) : Type 0 where
  -- before its opening, with nothing written
  AtStart : is_start_fault fault ≡ true → Keeps before after → RunFails opening before after fault
  -- before it closed, with a first part of what was due written
  AtLines : (settled : Result Settled SettleFault) → is_output_fault fault ≡ true
      → GrowsByPart before after (run_text opening settled) → RunFails opening before after fault
  -- with the fault of a thread, after it has written its opening and how it settled
  OfThread : (settled : Result Settled SettleFault)
      → (receivers senders : List (Option ReadinessFault))
      → thread_fault receivers senders ≡ Some fault
      → Appends before after (run_text opening settled) → RunFails opening before after fault

-- a relay, of one run or of several, ends with a fault: as a run that says that it is ready, or, with that written, as one that
-- could not begin after a reload
abbrev pub RelayFails : (before after : Option (List ℕ)) → RelayFault → Type 0
RelayFails before after fault =
    RunFails ready_line before after fault
    ⊎ ((is_start_fault fault ≡ true) × Appends before after ready_line)

-- ---- a relay of files

-- files that are a configuration, and a relay whose last run ends with a status
abbrev pub EndsWithStatus : (before after : Option (List ℕ)) → Status → Files → Type 0
EndsWithStatus before after status files =
    (c : Configuration) × (configuration_of files ≡ Ok c) × RunEnds ready_line before after status

-- the fault is the first that the files have, and nothing was written; or they are a configuration, and its relay fails
abbrev pub EndsWithFault : {S : Type 0} → Sources S → Sources S → (before after : Option (List ℕ))
    → RelayFault → Files → Type 0
EndsWithFault old new before after fault files =
    (EndsAt old new files fault × Keeps before after)
    ⊎ ((c : Configuration) × (configuration_of files ≡ Ok c) × RelayFails before after fault)
