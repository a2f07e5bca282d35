-- Why a relay cannot begin.
use Rattle.std.specs.Prelude.{Bool, true, false}
use Rattle.relay_files.specs.declared.fault.RelayFault.{RelayFault}
use Rattle.relay_files.specs.declared.fault.RelayFault.TheVariants.{Listen, Output, NoMemory}

-- a fault of a relay that has not begun: of a port, of what a sender waits with, or of memory
abbrev pub is_start_fault : RelayFault → Bool
is_start_fault (Listen role) = true
is_start_fault Output = true
is_start_fault NoMemory = true
is_start_fault fault = false
