-- The rows of a pickle: its instructions one after the other, up to STOP or the first that fails.
use Rattle.std.specs.Prelude.{ℕ, zero, suc, Bool, true, false, List, [], ◌∷◌, length, Result, Ok, Err, if◌then◌else◌}
use Rattle.pickle_subset.specs.declared.fault.PickleFault.{PickleFault}
use Rattle.pickle_subset.specs.declared.fault.PickleFault.TheVariants.{Truncated}
use Rattle.pickle_subset.specs.declared.opcode.Opcode.{Opcode}
use Rattle.pickle_subset.specs.declared.opcode.Opcode.TheVariants.{Stop}
use Rattle.pickle_subset.specs.Instruction.{Instruction, ◌>>=◌, instruction_at}
use Rattle.pickle_subset.specs.Value.{Row}
use Rattle.pickle_subset.specs.Table.{action}
use Rattle.pickle_subset.specs.Stack.{State, opening, act, finish}

-- ---- the bytes as a list of instructions

-- with the first instruction that was read, and the others after it
abbrev pub instructions_from : Result (Instruction × List ℕ) PickleFault
    → (List ℕ → List (Result Instruction PickleFault)) → List (Result Instruction PickleFault)
instructions_from (Ok next) others = Ok next.0 ∷ others next.1
instructions_from (Err fault) others = Err fault ∷ []

-- at most this number of instructions, and then the fault of the first that cannot be read
abbrev pub instructions_in : ℕ → List ℕ → List (Result Instruction PickleFault)
instructions_in zero bytes = Err Truncated ∷ []
instructions_in (suc n) bytes = instructions_from (instruction_at bytes) (instructions_in n)

-- there are at most as many as bytes
abbrev pub instructions : List ℕ → List (Result Instruction PickleFault)
instructions bytes = instructions_in (length bytes) bytes

-- ---- the fold over them

abbrev pub is_stop : Opcode → Bool
is_stop Stop = true
is_stop other = false

abbrev pub step : Instruction → State → Result State PickleFault
step i s = do
  what ← action i.opcode i.argument
  act what s

abbrev pub rows_from : State → List (Result Instruction PickleFault) → Result (List Row) PickleFault
rows_from s [] = Err Truncated
rows_from s (Err fault ∷ others) = Err fault
rows_from s (Ok i ∷ others) =
    if is_stop i.opcode then finish s.stack s.rows else (step i s >>= λ next. rows_from next others)

-- the rows of a pickle, or its fault
abbrev pub rows_of : List ℕ → Result (List Row) PickleFault
rows_of bytes = rows_from opening (instructions bytes)
