-- How a run closes.
use Rattle.std.specs.Prelude.{List, ℕ, [], ◌++◌, codes, decimal, Result, Ok, Err}
use Rattle.locked_queues.specs.declared.settled.Settled.{Settled}
use Rattle.locked_queues.specs.declared.settled.SettleFault.{SettleFault}
use Rattle.locked_queues.specs.declared.settled.SettleFault.TheVariants as settle
use Rattle.mio_loops.specs.declared.readiness.ReadinessFault.{ReadinessFault}
use Rattle.mio_loops.specs.declared.readiness.ReadinessFault.TheVariants as readiness
use Rattle.relay_files.specs.declared.fault.Status.{Status}
use Rattle.relay_files.specs.declared.fault.Status.TheVariants as status
use Rattle.relay_files.specs.declared.fault.RelayFault.{RelayFault}
use Rattle.relay_files.specs.declared.fault.RelayFault.TheVariants as relay

-- the line of a difference at a destination and a place
abbrev pub differs_line : ℕ → ℕ → List ℕ
differs_line dest place =
    codes "differs " ++ decimal dest ++ codes " " ++ decimal place ++ codes "\n"

-- the line for this end of a settling; out of memory has none
abbrev pub closing_line : Result Settled SettleFault → List ℕ
closing_line (Ok settled) = codes "settled\n"
closing_line (Err (settle.Sealed dest counts)) = codes "sealed " ++ decimal dest.0 ++ codes "\n"
closing_line (Err (settle.Totals dest)) = codes "totals " ++ decimal dest.0 ++ codes "\n"
closing_line (Err (settle.Differs dest whose place)) = differs_line dest.0 place
closing_line (Err settle.NoOrder) = codes "no order\n"
closing_line (Err settle.Strangers) = codes "strangers\n"
closing_line (Err settle.NoMemory) = []

-- the line of the log on a run that another one follows
abbrev pub ended_line : (number : ℕ) → Result Settled SettleFault → List ℕ
ended_line number settled = codes "run " ++ decimal number ++ codes ": " ++ closing_line settled

-- the status of a run with this end of its settling
abbrev pub closing_status : Result Settled SettleFault → Status
closing_status (Ok settled) = status.Done
closing_status (Err (settle.Sealed dest counts)) = status.Done
closing_status (Err settle.NoMemory) = status.NoMemory
closing_status (Err fault) = status.DeviceFault

-- the fault of a run whose receiver ended with this fault
abbrev pub input_fault : ReadinessFault → RelayFault
input_fault readiness.Device = relay.Input
input_fault readiness.NoMemory = relay.NoMemory

-- the fault of a run whose sender ended with this fault
abbrev pub output_fault : ReadinessFault → RelayFault
output_fault readiness.Device = relay.Output
output_fault readiness.NoMemory = relay.NoMemory
