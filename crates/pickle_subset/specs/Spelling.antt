-- How an instruction is spelled: the byte of its opcode, and then its argument.
use Rattle.std.specs.Prelude.{ℕ, List, ◌∷◌, ◌++◌, length}
use Rattle.byteorder.specs.Endian.{little_bytes}
use Rattle.pickle_subset.specs.declared.opcode.Opcode.{Opcode}
use Rattle.pickle_subset.specs.declared.opcode.Opcode.TheVariants.{Proto, Frame, Mark, Stop, EmptyList, Append, Appends, Tuple, Tuple2, BinInt, BinInt1, BinInt2, Long1, BinFloat, BinUnicode, ShortBinUnicode, BinString, ShortBinString, BinPut, LongBinPut, BinGet, LongBinGet, Memoize, None, NewTrue, NewFalse}
use Rattle.pickle_subset.specs.declared.opcode.Form.{Form}
use Rattle.pickle_subset.specs.declared.opcode.Form.TheVariants.{Bytes, Counted, SignedCount}
use Rattle.pickle_subset.specs.Opcode.{form_of}
use Rattle.pickle_subset.specs.Instruction.{Instruction}

-- the byte of an opcode
abbrev pub byte_of : Opcode → ℕ
byte_of Proto = 0x80
byte_of Frame = 0x95
byte_of Mark = 0x28
byte_of Stop = 0x2e
byte_of EmptyList = 0x5d
byte_of Append = 0x61
byte_of Appends = 0x65
byte_of Tuple = 0x74
byte_of Tuple2 = 0x86
byte_of BinInt = 0x4a
byte_of BinInt1 = 0x4b
byte_of BinInt2 = 0x4d
byte_of Long1 = 0x8a
byte_of BinFloat = 0x47
byte_of BinUnicode = 0x58
byte_of ShortBinUnicode = 0x8c
byte_of BinString = 0x54
byte_of ShortBinString = 0x55
byte_of BinPut = 0x71
byte_of LongBinPut = 0x72
byte_of BinGet = 0x68
byte_of LongBinGet = 0x6a
byte_of Memoize = 0x94
byte_of None = 0x4e
byte_of NewTrue = 0x88
byte_of NewFalse = 0x89

-- an argument, with its length before it if the form has one
abbrev pub argument_bytes : Form → List ℕ → List ℕ
argument_bytes (Bytes n) argument = argument
argument_bytes (Counted n) argument = little_bytes n (length argument) ++ argument
argument_bytes SignedCount argument = little_bytes 4 (length argument) ++ argument

abbrev pub instruction_bytes : Instruction → List ℕ
instruction_bytes i = byte_of i.opcode ∷ argument_bytes (form_of i.opcode) i.argument
