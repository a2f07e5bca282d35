-- The writer of one destination: the batch in hand, how much of its text was taken, and whether
-- there is a connection.
use Rattle.std.specs.Prelude.{ℕ, ◌+◌, ◌-◌, Bool, true, false, ◌&&◌, nat_le, if◌then◌else◌, List, [], ◌∷◌, length, take, drop}
use Rattle.line_text.specs.Datapoint.{Datapoint}
use Rattle.line_text.specs.Print.{printed_line, printed_lines}

pub record WriterState : Type 0 where
  -- the points in hand, the first one first
  pub hand : List Datapoint
  -- how many bytes of the hand's text were taken
  pub written : ℕ
  pub up : Bool

-- a writer with the number of points that a batch may have
pub record SizedWriter : Type 0 where
  pub limit : ℕ
  pub writer : WriterState

abbrev pub fresh_writer : WriterState
fresh_writer = record { hand = []; written = 0; up = false }

abbrev pub is_empty_handed : List Datapoint → Bool
is_empty_handed [] = true
is_empty_handed (point ∷ points) = false

-- a batch is wanted while the connection is up and the hand is empty
abbrev pub wants_batch : WriterState → Bool
wants_batch w = w.up && is_empty_handed w.hand

-- how many bytes of the hand's text are left
abbrev pub left : WriterState → ℕ
left w = length (printed_lines w.hand) - w.written

-- those bytes
abbrev pub bytes_left : WriterState → List ℕ
bytes_left w = drop w.written (printed_lines w.hand)

-- the bytes that the connection gets, if it takes this many
abbrev pub bytes_written : ℕ → WriterState → List ℕ
bytes_written count w = take count (bytes_left w)

-- of these points, what is left of the first line whose last byte is not among this many bytes of
-- their text
abbrev pub line_left_of : ℕ → List Datapoint → List ℕ
line_left_of written [] = []
line_left_of written (point ∷ points) =
    if nat_le (length (printed_line point)) written
    then line_left_of (written - length (printed_line point)) points
    else drop written (printed_line point)

-- what is left of the current line: of the first that was not wholly taken
abbrev pub line_left : WriterState → List ℕ
line_left w = line_left_of w.written w.hand

-- of these points, those whose last byte is not among this many bytes of their text
abbrev pub unfinished_points : ℕ → List Datapoint → List Datapoint
unfinished_points written [] = []
unfinished_points written (point ∷ points) =
    if nat_le (length (printed_line point)) written
    then unfinished_points (written - length (printed_line point)) points
    else point ∷ points

-- there is a connection
abbrev pub writer_after_up : WriterState → WriterState
writer_after_up w = record w { up = true }

-- a batch is in hand
abbrev pub writer_after_take : List Datapoint → WriterState → WriterState
writer_after_take points w = record w { hand = points; written = 0 }

-- the connection took the next bytes; with the last of them the hand is empty
abbrev pub writer_after_write : ℕ → WriterState → WriterState
writer_after_write count w =
    record {
      hand = if nat_le (left w) count then [] else w.hand;
      written = if nat_le (left w) count then 0 else w.written + count;
      up = w.up;
    }

-- the connection is lost: what was not wholly taken stays in hand, to be written again from its
-- first byte
abbrev pub writer_after_down : WriterState → WriterState
writer_after_down w =
    record w { up = false; hand = unfinished_points w.written w.hand; written = 0 }
