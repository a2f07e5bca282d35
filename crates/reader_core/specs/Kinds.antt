-- How the three kinds of readers read, and what was wrong with what they were fed.
use Rattle.std.specs.Prelude.{ℕ, Bool, false, List, [], ◌∷◌, map, sum_by}
use Rattle.line_text.specs.Datapoint.{Datapoint}
use Rattle.line_text.specs.Connection as lines
use Rattle.line_text.specs.Datagram as datagrams
use Rattle.pickle_subset.specs.Accepted as pickles
use Rattle.pickle_subset.specs.Frame as frames
use Rattle.reader_core.specs.Input.{Stream}
use Rattle.reader_core.specs.Reading.{Reading}
use Rattle.reader_core.specs.declared.kind.ReaderKind.{ReaderKind}
use Rattle.reader_core.specs.declared.kind.ReaderKind.TheVariants.{Line, Pickle, Datagram}

-- the bytes of a datagram, and its moment, which is that of each of its bytes
abbrev pub bytes_of : Stream → List ℕ
bytes_of datagram = map (λ a. a.byte) datagram

abbrev pub moment_of : Stream → ℕ
moment_of [] = 0
moment_of (a ∷ others) = a.moment

-- ---- a connection, or a datagram

-- its accepted datapoints, in order
abbrev pub points_in : ReaderKind → Stream → List Datapoint
points_in Line connection = lines.accepted_points connection
points_in Pickle connection = pickles.accepted_points connection
points_in Datagram datagram = datagrams.accepted_points (bytes_of datagram) (moment_of datagram)

-- whether a reader reads nothing more of it
abbrev pub closes : ReaderKind → Stream → Bool
closes Line connection = lines.is_closed connection
closes Pickle connection = frames.is_closed connection
closes Datagram datagram = false

-- how many of its lines are neither a datapoint nor blank
abbrev pub bad_lines_in : ReaderKind → Stream → ℕ
bad_lines_in Line connection = lines.bad_lines connection
bad_lines_in Pickle connection = 0
bad_lines_in Datagram datagram = datagrams.bad_lines (bytes_of datagram) (moment_of datagram)

-- how many of its pickles cannot be read
abbrev pub bad_pickles_in : ReaderKind → Stream → ℕ
bad_pickles_in Line connection = 0
bad_pickles_in Pickle connection = pickles.bad_pickles connection
bad_pickles_in Datagram datagram = 0

-- how many rows of its other pickles give no datapoint
abbrev pub bad_rows_in : ReaderKind → Stream → ℕ
bad_rows_in Line connection = 0
bad_rows_in Pickle connection = pickles.bad_rows connection
bad_rows_in Datagram datagram = 0

-- ---- a whole input

-- how the relay reads
abbrev pub relay_reading : Reading
relay_reading = record { points = points_in; closes = closes }

abbrev pub bad_lines_of : ReaderKind → List Stream → ℕ
bad_lines_of kind input = sum_by (bad_lines_in kind) input

abbrev pub bad_pickles_of : ReaderKind → List Stream → ℕ
bad_pickles_of kind input = sum_by (bad_pickles_in kind) input

abbrev pub bad_rows_of : ReaderKind → List Stream → ℕ
bad_rows_of kind input = sum_by (bad_rows_in kind) input
