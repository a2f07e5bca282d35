-- The opcodes that are read, by the names that Python's `pickletools` gives them: the byte of each, and its argument.
use Rattle.std.specs.Prelude.{ℕ, List, [], ◌∷◌, Option, ◌==◌}
use Rattle.std.specs.Map.{lookup}
use Rattle.pickle_subset.specs.declared.opcode.Opcode.{Opcode}
use Rattle.pickle_subset.specs.declared.opcode.Opcode.TheVariants.{Proto, Frame, Mark, Stop, EmptyList, Append, Appends, Tuple, Tuple2, BinInt, BinInt1, BinInt2, Long1, BinFloat, BinUnicode, ShortBinUnicode, BinString, ShortBinString, BinPut, LongBinPut, BinGet, LongBinGet, Memoize, None, NewTrue, NewFalse}
use Rattle.pickle_subset.specs.declared.opcode.Form.{Form}
use Rattle.pickle_subset.specs.declared.opcode.Form.TheVariants.{Bytes, Counted, SignedCount}

-- each byte and its opcode
abbrev pub opcodes : List (ℕ × Opcode)
opcodes =
    (0x80, Proto) ∷ (0x95, Frame) ∷ (0x28, Mark) ∷ (0x2e, Stop) ∷ (0x5d, EmptyList)
    ∷ (0x61, Append) ∷ (0x65, Appends)
    ∷ (0x74, Tuple) ∷ (0x86, Tuple2) ∷ (0x4a, BinInt) ∷ (0x4b, BinInt1) ∷ (0x4d, BinInt2)
    ∷ (0x8a, Long1) ∷ (0x47, BinFloat)
    ∷ (0x58, BinUnicode) ∷ (0x8c, ShortBinUnicode) ∷ (0x54, BinString) ∷ (0x55, ShortBinString)
    ∷ (0x71, BinPut)
    ∷ (0x72, LongBinPut) ∷ (0x68, BinGet) ∷ (0x6a, LongBinGet) ∷ (0x94, Memoize) ∷ (0x4e, None)
    ∷ (0x88, NewTrue)
    ∷ (0x89, NewFalse) ∷ []

-- the opcode that a byte is
abbrev pub opcode_of : ℕ → Option Opcode
opcode_of byte = lookup (λ b. byte == b) opcodes

-- how the argument of each is written
abbrev pub form_of : Opcode → Form
form_of Proto = Bytes 1
form_of Frame = Bytes 8
form_of Mark = Bytes 0
form_of Stop = Bytes 0
form_of EmptyList = Bytes 0
form_of Append = Bytes 0
form_of Appends = Bytes 0
form_of Tuple = Bytes 0
form_of Tuple2 = Bytes 0
form_of BinInt = Bytes 4
form_of BinInt1 = Bytes 1
form_of BinInt2 = Bytes 2
form_of Long1 = Counted 1
form_of BinFloat = Bytes 8
form_of BinUnicode = Counted 4
form_of ShortBinUnicode = Counted 1
form_of BinString = SignedCount
form_of ShortBinString = Counted 1
form_of BinPut = Bytes 1
form_of LongBinPut = Bytes 4
form_of BinGet = Bytes 1
form_of LongBinGet = Bytes 4
form_of Memoize = Bytes 0
form_of None = Bytes 0
form_of NewTrue = Bytes 0
form_of NewFalse = Bytes 0
