-- What holds for the definitions.
use Rattle.std.specs.Prelude.{◌≡◌, ℕ, ◌≤◌, ◌↔◌, ℤ, List, ◌++◌, length, map, true, false, [], Some, Ok}
use Rattle.std.specs.List.{flat_map, AllByRecursion}
use Rattle.byteorder.specs.Endian.{big_bytes}
use Rattle.line_text.specs.Connection.{Arrival, arrivals}
use Rattle.line_text.specs.Laws.{OnlyGrows}
use Rattle.pickle_subset.specs.Binary.{IsBinaryValue, binary_value}
use Rattle.pickle_subset.specs.Frame.{Frame, longest_frame, length_size, reception, frames, is_closed}
use Rattle.pickle_subset.specs.Reader.{GivesNoMore}
use Rattle.pickle_subset.specs.Pickle.{rows_of}
use Rattle.pickle_subset.specs.Python as python
use Rattle.pickle_subset.specs.Accepted.{accepted_points}

-- more bytes on a connection only add datapoints
abbrev pub AcceptedGrowsLaw : Type 0
AcceptedGrowsLaw = OnlyGrows accepted_points

-- a connection gives nothing before its first byte
abbrev pub NothingAtFirstLaw : Type 0
NothingAtFirstLaw = accepted_points [] ≡ []

-- a reader reads nothing more of a closed connection
abbrev pub StaysClosedLaw : Type 0
StaysClosedLaw = (connection : List Arrival) → is_closed connection ≡ true → GivesNoMore connection

-- of a connection that is not closed, what a reader gives that goes on behind what the first one kept of it, whenever that is
-- fed to it: together they give what one reader gives of the whole
pub record ReadsOn (c more : List Arrival) (moment : ℕ) : Type 0 where
  pub frames : frames (c ++ more)
      ≡ frames c ++ frames (arrivals (reception c).partial moment ++ more)
  pub accepted_points : accepted_points (c ++ more)
      ≡ accepted_points c ++ accepted_points (arrivals (reception c).partial moment ++ more)
  pub closed : is_closed (c ++ more) ≡ is_closed (arrivals (reception c).partial moment ++ more)

abbrev pub ReadsOnLaw : Type 0
ReadsOnLaw =
    (c more : List Arrival) (moment : ℕ) → is_closed c ≡ false → ReadsOn c more moment

-- a pickle with its length before it
abbrev pub frame_of : List ℕ → List ℕ
frame_of pickle = big_bytes length_size (length pickle) ++ pickle

abbrev pub the_frame : ℕ → List ℕ → Frame
the_frame moment pickle = record { pickle = pickle; moment = moment }

abbrev pub Fits : List ℕ → Type 0
Fits pickle = length pickle ≤ longest_frame

-- pickles sent in frames are the frames that a reader reads
abbrev pub FramesLaw : Type 0
FramesLaw =
    (pickles : List (List ℕ)) (moment : ℕ) → AllByRecursion Fits pickles
    → frames (arrivals (flat_map frame_of pickles) moment) ≡ map (the_frame moment) pickles

-- the rows of a list of rows, as Python writes it in a protocol, are these rows
abbrev pub ReadsPythonLaw : Type 0
ReadsPythonLaw =
    (protocol : ℕ) (objects : python.Objects) (l : python.Rows)
    → protocol ≤ 5 → python.IsRows protocol objects l
    → rows_of (python.pickle_of protocol l) ≡ Ok (map python.row_of l.rows)

-- the value that is computed of 64 bits is the number of units nearest to what they denote, and there is none if
-- they denote no number or that is out of range
abbrev pub BinaryValueLaw : Type 0
BinaryValueLaw = (bits : ℕ) (u : ℤ) → (binary_value bits ≡ Some u) ↔ IsBinaryValue bits u
