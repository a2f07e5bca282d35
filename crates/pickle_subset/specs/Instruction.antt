-- A pickle as a list of instructions: opcodes with their arguments.
use Rattle.std.specs.Prelude.{ℕ, ◌^◌, ◌≤◌, ◌≡◌, List, [], ◌∷◌, length, take, drop, Result, Ok, Err, ok_or, nat_lt, nat_le, if◌then◌else◌}
use Rattle.byteorder.specs.Endian.{little_number}
use Rattle.pickle_subset.specs.declared.fault.PickleFault.{PickleFault}
use Rattle.pickle_subset.specs.declared.fault.PickleFault.TheVariants.{Truncated, UnknownOpcode, BadText}
use Rattle.pickle_subset.specs.declared.opcode.Opcode.{Opcode}
use Rattle.pickle_subset.specs.declared.opcode.Form.{Form}
use Rattle.pickle_subset.specs.declared.opcode.Form.TheVariants.{Bytes, Counted, SignedCount}
use Rattle.pickle_subset.specs.declared.instruction.FirstInstruction.{FirstInstruction}
use Rattle.pickle_subset.specs.declared.instruction.Instruction as read
use Rattle.pickle_subset.specs.Opcode.{opcode_of, form_of}

-- an opcode, and the bytes of its argument without their length
pub record Instruction : Type 0 where
  pub opcode : Opcode
  pub argument : List ℕ

infixl 10 ◌>>=◌
abbrev pub ◌>>=◌ : {A B : Type 0} → Result A PickleFault → (A → Result B PickleFault)
    → Result B PickleFault
(Ok x) >>= f = f x
(Err e) >>= f = Err e

-- this number of bytes, and those after them
abbrev pub bytes_at : ℕ → List ℕ → Result (List ℕ × List ℕ) PickleFault
bytes_at n bytes =
    if nat_lt (length bytes) n then Err Truncated else Ok (take n bytes, drop n bytes)

-- an argument, and the bytes after it
abbrev pub argument_at : Form → List ℕ → Result (List ℕ × List ℕ) PickleFault
argument_at (Bytes n) bytes = bytes_at n bytes
argument_at (Counted n) bytes = do
  count ← bytes_at n bytes
  bytes_at (little_number n count.0) count.1
argument_at SignedCount bytes = do
  count ← bytes_at 4 bytes
  if nat_le (2 ^ 31) (little_number 4 count.0) then Err BadText
      else bytes_at (little_number 4 count.0) count.1

-- an instruction, and the bytes after it
abbrev pub instruction_at : List ℕ → Result (Instruction × List ℕ) PickleFault
instruction_at [] = Err Truncated
instruction_at (byte ∷ bytes) = do
  opcode ← ok_or (opcode_of byte) UnknownOpcode
  argument ← argument_at (form_of opcode) bytes
  Ok (record { opcode = opcode; argument = argument.0 }, argument.1)

-- an argument of this number of bytes has exactly that number
abbrev pub HasForm : Form → List ℕ → Type 0
HasForm (Bytes n) argument = length argument ≡ n
HasForm (Counted n) argument = Unit {0}
HasForm SignedCount argument = Unit {0}

-- a length has one to eight bytes
abbrev pub HasShortCount : Form → Type 0
HasShortCount (Bytes n) = Unit {0}
HasShortCount (Counted n) = (1 ≤ n) × (n ≤ 8)
HasShortCount SignedCount = Unit {0}

-- an instruction apart from where its argument is in memory
abbrev pub instruction_view : read.Instruction → Instruction
instruction_view i = record { opcode = i.opcode; argument = i.argument.now }

-- what is read as the next instruction
abbrev pub next : FirstInstruction → Instruction × List ℕ
next n = (instruction_view n.instruction, n.rest.now)
