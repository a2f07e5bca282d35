-- A list of rows as Python's `pickle` writes it, in each protocol from 1 to 5 (the function `save` of `_pickle.c` and
-- those that it calls; PEP 307 and PEP 3154 say how the protocols differ).
use Rattle.std.specs.Prelude.{ℕ, zero, suc, ℤ, pos, negsuc, ◌+◌, ◌*◌, ◌-◌, ◌^◌, ◌<◌, ◌≤◌, ◌≡◌, Bool, true, ◌&&◌, ◌||◌, ◌==◌, List, [], ◌∷◌, ◌++◌, length, Option, Some, None, nat_lt, nat_le, if◌then◌else◌}
use Rattle.std.specs.Str.{is_utf8}
use Rattle.std.specs.List.{AllByRecursion}
use Rattle.byteorder.specs.Endian.{little_bytes, big_bytes}
use Rattle.pickle_subset.specs.declared.opcode.Opcode.{Opcode}
use Rattle.pickle_subset.specs.declared.opcode.Opcode.TheVariants as opcodes
use Rattle.pickle_subset.specs.Instruction.{Instruction}
use Rattle.pickle_subset.specs.Spelling.{instruction_bytes}
use Rattle.pickle_subset.specs.Value as values

-- ---- what Python has: objects, each with the number that `id` gives it

pub record Text : Type 0 where
  pub id : ℕ
  pub text : List ℕ

-- a time or a value
pub data Scalar : Type 0 where
  Str : (text : Text) → Scalar
  Int : (number : ℤ) → Scalar
  -- by the 64 bits of its binary64
  Float : (bits : ℕ) → Scalar
  -- None
  Nothing : Scalar

-- a tuple of a path and of a pair, which is a tuple of a time and a value
pub record Row : Type 0 where
  pub id : ℕ
  pub path : Text
  pub pair : ℕ
  pub time : Scalar
  pub value : Scalar

pub record Rows : Type 0 where
  pub id : ℕ
  pub rows : List Row

-- ---- what is written: instructions, and where an object begins

pub data Token : Type 0 where
  Op : (instruction : Instruction) → Token
  Begin : Token

-- what has been stored, the last first: the number of an object in the memo is how many were stored
-- before it
abbrev pub number_of : ℕ → List ℕ → Option ℕ
number_of id [] = None
number_of id (last ∷ before) = if id == last then Some (length before) else number_of id before

-- what is written, and what has been stored then
abbrev pub Written : Type 0
Written = List Token × List ℕ

abbrev pub Writer : Type 0
Writer = List ℕ → Written

abbrev pub op : Opcode → List ℕ → Writer
op opcode argument stored = (Op (record { opcode = opcode; argument = argument }) ∷ [], stored)

abbrev pub behind : List Token → Written → Written
behind tokens written = (tokens ++ written.0, written.1)

abbrev pub go_on : Written → Writer → Written
go_on written next = behind written.0 (next written.1)

infixr 5 ◌⨾◌
abbrev pub ◌⨾◌ : Writer → Writer → Writer
(first ⨾ second) stored = go_on (first stored) second

-- an object, whatever is written of it
abbrev pub save : Writer → Writer
save write stored = behind (Begin ∷ []) (write stored)

-- ---- the memo

abbrev pub put : ℕ → ℕ → Writer
put protocol number =
    if nat_le 4 protocol then op opcodes.Memoize []
    else if nat_lt number 256 then op opcodes.BinPut (little_bytes 1 number)
    else op opcodes.LongBinPut (little_bytes 4 number)

abbrev pub fetch : ℕ → Writer
fetch number =
    if nat_lt number 256 then op opcodes.BinGet (little_bytes 1 number)
    else op opcodes.LongBinGet (little_bytes 4 number)

abbrev pub note : ℕ → Writer
note id stored = ([], id ∷ stored)

abbrev pub store : ℕ → ℕ → Writer
store protocol id stored = (put protocol (length stored) ⨾ note id) stored

abbrev pub fetched_or : Option ℕ → Writer → Writer
fetched_or None write = write
fetched_or (Some number) write = fetch number

-- an object that has been stored is fetched, and another is written and stored
abbrev pub object : ℕ → ℕ → Writer → Writer
object protocol id write stored =
    save (fetched_or (number_of id stored) (write ⨾ store protocol id)) stored

-- ---- texts and numbers

abbrev pub is_short : ℕ → List ℕ → Bool
is_short protocol text = nat_le 4 protocol && nat_lt (length text) 256

abbrev pub text : ℕ → Text → Writer
text protocol t =
    object protocol t.id
    (op (if is_short protocol t.text then opcodes.ShortBinUnicode else opcodes.BinUnicode) t.text)

-- how far a number is from 0, or from -1 if it is below 0
abbrev pub magnitude : ℤ → ℕ
magnitude (pos n) = n
magnitude (negsuc n) = n

-- whether it fits this number of bytes, with its sign
abbrev pub fits : ℕ → ℤ → Bool
fits size number = nat_lt (magnitude number) (2 ^ (8 * size - 1))

-- two's complement, the lowest byte first
abbrev pub signed_bytes : ℕ → ℤ → List ℕ
signed_bytes size (pos n) = little_bytes size n
signed_bytes size (negsuc n) = little_bytes size (2 ^ (8 * size) - suc n)

-- the fewest bytes that a number of more than four fits
abbrev pub long_size : ℤ → ℕ
long_size number =
    if fits 5 number then 5 else if fits 6 number then 6 else if fits 7 number then 7 else 8

abbrev pub signed_number : ℤ → Writer
signed_number number =
    if fits 4 number then op opcodes.BinInt (signed_bytes 4 number)
    else op opcodes.Long1 (signed_bytes (long_size number) number)

abbrev pub whole : ℤ → Writer
whole (pos n) =
    if nat_lt n 256 then op opcodes.BinInt1 (little_bytes 1 n)
    else if nat_lt n 65536 then op opcodes.BinInt2 (little_bytes 2 n)
    else signed_number (pos n)
whole (negsuc n) = signed_number (negsuc n)

abbrev pub scalar : ℕ → Scalar → Writer
scalar protocol (Str t) = text protocol t
scalar protocol (Int number) = save (whole number)
scalar protocol (Float bits) = save (op opcodes.BinFloat (big_bytes 8 bits))
scalar protocol Nothing = save (op opcodes.None [])

-- ---- tuples, and the list

abbrev pub tuple : ℕ → ℕ → Writer → Writer → Writer
tuple protocol id first second =
    object protocol id
    (if nat_le 2 protocol then first ⨾ second ⨾ op opcodes.Tuple2 []
    else op opcodes.Mark [] ⨾ first ⨾ second ⨾ op opcodes.Tuple [])

abbrev pub row : ℕ → Row → Writer
row protocol r =
    tuple protocol r.id (text protocol r.path)
    (tuple protocol r.pair (scalar protocol r.time) (scalar protocol r.value))

-- rows are appended by the thousand: the rows that are left; this number of them goes into this batch
abbrev pub batches : ℕ → ℕ → List Row → Writer
batches protocol left [] = op opcodes.Appends []
batches protocol zero (r ∷ rows) =
    op opcodes.Appends [] ⨾ op opcodes.Mark [] ⨾ row protocol r ⨾ batches protocol 999 rows
batches protocol (suc left) (r ∷ rows) = row protocol r ⨾ batches protocol left rows

abbrev pub nothing : Writer
nothing stored = ([], stored)

abbrev pub items : ℕ → List Row → Writer
items protocol [] = nothing
items protocol (r ∷ []) = row protocol r ⨾ op opcodes.Append []
items protocol (r ∷ rows) = op opcodes.Mark [] ⨾ row protocol r ⨾ batches protocol 999 rows

abbrev pub list : ℕ → Rows → Writer
list protocol l = save (op opcodes.EmptyList [] ⨾ store protocol l.id ⨾ items protocol l.rows)

-- ---- bytes, in frames from protocol 4 on

abbrev pub spelled : List Token → List ℕ
spelled [] = []
spelled (Op i ∷ tokens) = instruction_bytes i ++ spelled tokens
spelled (Begin ∷ tokens) = spelled tokens

abbrev pub frame_opcode : ℕ → Instruction
frame_opcode size = record { opcode = opcodes.Frame; argument = little_bytes 8 size }

-- bytes as a frame, if they are worth one
abbrev pub frame : List ℕ → List ℕ
frame bytes =
    if nat_lt (length bytes) 4 then bytes
    else instruction_bytes (frame_opcode (length bytes)) ++ bytes

-- a frame that has 64 KiB ends where the next object begins, and a text of this number of bytes is in none. The bytes
-- of the frame so far, and what is still to be written
abbrev pub frames : List ℕ → List Token → List ℕ
frames bytes [] = frame bytes
frames bytes (Op i ∷ tokens) =
    if nat_lt (length i.argument) 65536 then frames (bytes ++ instruction_bytes i) tokens
    else frame bytes ++ instruction_bytes i ++ frames [] tokens
frames bytes (Begin ∷ tokens) =
    if nat_lt (length bytes) 65536 then frames bytes tokens
    else frame bytes ++ frames [] tokens

abbrev pub bytes_of : ℕ → List Token → List ℕ
bytes_of protocol tokens = if nat_lt protocol 4 then spelled tokens else frames [] tokens

-- ---- a pickle

abbrev pub header : ℕ → List ℕ
header protocol =
    if nat_le 2 protocol
    then instruction_bytes (record { opcode = opcodes.Proto; argument = protocol ∷ [] }) else []

abbrev pub ending : List Token
ending = Op (record { opcode = opcodes.Stop; argument = [] }) ∷ []

abbrev pub pickle_of : ℕ → Rows → List ℕ
pickle_of protocol l = header protocol ++ bytes_of protocol ((list protocol l []).0 ++ ending)

-- ---- what it must be read as

abbrev pub scalar_of : Scalar → values.Scalar
scalar_of (Str t) = values.Text t.text
scalar_of (Int number) = values.Whole number
scalar_of (Float bits) = values.Binary bits
scalar_of Nothing = values.Other

abbrev pub pair_of : Row → values.Pair
pair_of r = record { time = scalar_of r.time; value = scalar_of r.value }

abbrev pub row_of : Row → values.Row
row_of r = record { path = r.path.text; time = scalar_of r.time; value = scalar_of r.value }

-- ---- what can be written this way: `objects` gives the object of each id

abbrev pub Objects : Type 0
Objects = ℕ → values.Item

pub record IsText (objects : Objects) (t : Text) : Type 0 where
  pub utf8 : is_utf8 t.text ≡ true
  pub size : length t.text < 2 ^ 32
  pub object : objects t.id ≡ values.One (values.Text t.text)

-- protocol 1 has no binary form for a number of more than four bytes
abbrev pub widest : ℕ → ℕ
widest protocol = if nat_le 2 protocol then 8 else 4

abbrev pub IsScalar : ℕ → Objects → Scalar → Type 0
IsScalar protocol objects (Str t) = IsText objects t
IsScalar protocol objects (Int number) = fits (widest protocol) number ≡ true
IsScalar protocol objects (Float bits) = bits < 2 ^ 64
IsScalar protocol objects Nothing = Unit {0}

pub record IsRow (protocol : ℕ) (objects : Objects) (r : Row) : Type 0 where
  pub path : IsText objects r.path
  pub time : IsScalar protocol objects r.time
  pub value : IsScalar protocol objects r.value
  pub pair : objects r.pair ≡ values.Two (pair_of r)
  pub row : objects r.id ≡ values.Three (row_of r)

-- a row has at most five objects, and the memo numbers of four bytes
pub record IsRows (protocol : ℕ) (objects : Objects) (l : Rows) : Type 0 where
  pub rows : AllByRecursion (IsRow protocol objects) l.rows
  pub list : objects l.id ≡ values.Rows
  pub size : 1 + 5 * length l.rows ≤ 2 ^ 32
