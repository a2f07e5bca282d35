-- What each opcode does with its argument: Python's `pickletools` describes each under the same name.
use Rattle.std.specs.Prelude.{ℕ, ℤ, pos, List, length, Result, Ok, Err, nat_le, if◌then◌else◌}
use Rattle.std.specs.Str.{is_utf8}
use Rattle.byteorder.specs.Endian.{little_number, big_number, twos_complement}
use Rattle.pickle_subset.specs.declared.fault.PickleFault.{PickleFault}
use Rattle.pickle_subset.specs.declared.fault.PickleFault.TheVariants.{UnknownOpcode, BadText}
use Rattle.pickle_subset.specs.declared.opcode.Opcode.{Opcode}
use Rattle.pickle_subset.specs.declared.opcode.Opcode.TheVariants as opcodes
use Rattle.pickle_subset.specs.Value.{Scalar, Text, Whole, Binary, Other}

pub data Action : Type 0 where
  Pass : Action
  PushMark : Action
  PushRows : Action
  Push : (scalar : Scalar) → Action
  -- the top two become a tuple
  JoinTwo : Action
  -- the two above the topmost mark become a tuple
  JoinMarked : Action
  AppendOne : Action
  AppendMarked : Action
  Store : (number : ℕ) → Action
  StoreNext : Action
  Fetch : (number : ℕ) → Action

-- the last protocol that is read
abbrev pub last_protocol : ℕ
last_protocol = 5

-- the longest argument of LONG1 that is read as a number, in bytes
abbrev pub longest_whole : ℕ
longest_whole = 8

-- two's complement, the lowest byte first
abbrev pub signed_number : List ℕ → ℤ
signed_number bytes = twos_complement (length bytes) (little_number (length bytes) bytes)

abbrev pub long_scalar : List ℕ → Scalar
long_scalar bytes =
    if nat_le (length bytes) longest_whole then Whole (signed_number bytes) else Other

abbrev pub text_action : List ℕ → Result Action PickleFault
text_action text = if is_utf8 text then Ok (Push (Text text)) else Err BadText

abbrev pub protocol_action : ℕ → Result Action PickleFault
protocol_action protocol = if nat_le protocol last_protocol then Ok Pass else Err UnknownOpcode

-- STOP ends the pickle, before any action
abbrev pub action : Opcode → List ℕ → Result Action PickleFault
action opcodes.Proto argument = protocol_action (little_number 1 argument)
action opcodes.Frame argument = Ok Pass
action opcodes.Stop argument = Ok Pass
action opcodes.Mark argument = Ok PushMark
action opcodes.EmptyList argument = Ok PushRows
action opcodes.BinInt argument = Ok (Push (Whole (signed_number argument)))
action opcodes.BinInt1 argument = Ok (Push (Whole (pos (little_number 1 argument))))
action opcodes.BinInt2 argument = Ok (Push (Whole (pos (little_number 2 argument))))
action opcodes.Long1 argument = Ok (Push (long_scalar argument))
action opcodes.BinFloat argument = Ok (Push (Binary (big_number 8 argument)))
action opcodes.BinUnicode argument = text_action argument
action opcodes.ShortBinUnicode argument = text_action argument
action opcodes.BinString argument = text_action argument
action opcodes.ShortBinString argument = text_action argument
action opcodes.None argument = Ok (Push Other)
action opcodes.NewTrue argument = Ok (Push (Whole (pos 1)))
action opcodes.NewFalse argument = Ok (Push (Whole (pos 0)))
action opcodes.Tuple2 argument = Ok JoinTwo
action opcodes.Tuple argument = Ok JoinMarked
action opcodes.Append argument = Ok AppendOne
action opcodes.Appends argument = Ok AppendMarked
action opcodes.BinPut argument = Ok (Store (little_number 1 argument))
action opcodes.LongBinPut argument = Ok (Store (little_number 4 argument))
action opcodes.Memoize argument = Ok StoreNext
action opcodes.BinGet argument = Ok (Fetch (little_number 1 argument))
action opcodes.LongBinGet argument = Ok (Fetch (little_number 4 argument))
