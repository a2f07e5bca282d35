-- The frames of a connection: a length of four bytes, the highest first, and as many bytes as it says.
use Rattle.std.specs.Prelude.{ℕ, ◌+◌, Bool, true, false, List, [], ◌∷◌, ◌++◌, length, drop, nat_lt, if◌then◌else◌}
use Rattle.byteorder.specs.Endian.{big_number}
use Rattle.line_text.specs.Connection.{Arrival}

-- the bytes of a frame, and the moment of its last byte: of the length's last byte if it is empty
pub record Frame : Type 0 where
  pub pickle : List ℕ
  pub moment : ℕ

-- in bytes, of the length before a pickle
abbrev pub length_size : ℕ
length_size = 4

-- in bytes, without the length before it
abbrev pub longest_frame : ℕ
longest_frame = 1048576

-- what the length says that bytes begin with
abbrev pub length_of : List ℕ → ℕ
length_of bytes = big_number length_size bytes

-- whether bytes are less than a frame, begin with a length that is too long, or begin with a whole frame
pub data Front : Type 0 where
  Partial : Front
  TooLong : Front
  Whole : Front

abbrev pub front : List ℕ → Front
front bytes =
    if nat_lt (length bytes) length_size then Partial
    else if nat_lt longest_frame (length_of bytes) then TooLong
    else if nat_lt (length bytes) (length_size + length_of bytes) then Partial
    else Whole

abbrev pub is_over : Front → Bool
is_over Partial = false
is_over TooLong = true
is_over Whole = false

-- ---- a connection, byte by byte

-- what was received of a connection: its frames, the part of the next, and whether it is closed
pub record Reception : Type 0 where
  pub frames : List Frame
  pub partial : List ℕ
  pub closed : Bool

abbrev pub nothing : Reception
nothing = record { frames = []; partial = []; closed = false }

-- with the bytes received since the last frame, at the moment of the last of them
abbrev pub reception_with : Front → List Frame → List ℕ → ℕ → Reception
reception_with Partial frames bytes moment = record { frames = frames; partial = bytes; closed = false }
reception_with TooLong frames bytes moment = record { frames = frames; partial = bytes; closed = true }
reception_with Whole frames bytes moment =
    record {
      frames = frames ++ (record { pickle = drop length_size bytes; moment = moment }) ∷ [];
      partial = [];
      closed = false;
    }

-- with one more byte; a reader reads nothing of a closed connection
abbrev pub with_byte : Arrival → Reception → Reception
with_byte a r =
    if r.closed then r else reception_with (front (r.partial ++ a.byte ∷ [])) r.frames
    (r.partial ++ a.byte ∷ []) a.moment

abbrev pub receive : Reception → List Arrival → Reception
receive r [] = r
receive r (a ∷ c) = receive (with_byte a r) c

-- a connection, up to its end or to the first length that is too long
abbrev pub reception : List Arrival → Reception
reception c = receive nothing c

abbrev pub frames : List Arrival → List Frame
frames c = (reception c).frames

abbrev pub is_closed : List Arrival → Bool
is_closed c = (reception c).closed
