-- What a connection of pickles gives.
use Rattle.std.specs.Prelude.{ℕ, ◌+◌, ◌++◌, List, [], ◌∷◌, Option, Some, None, Result, Ok, Err, is_err, count_by, filter_map}
use Rattle.line_text.specs.declared.fault.LineFault.{LineFault}
use Rattle.line_text.specs.Datapoint.{Datapoint}
use Rattle.line_text.specs.Connection.{Arrival}
use Rattle.pickle_subset.specs.declared.fault.PickleFault.{PickleFault}
use Rattle.pickle_subset.specs.Value.{Row}
use Rattle.pickle_subset.specs.Pickle.{rows_of}
use Rattle.pickle_subset.specs.RowPoint.{point_of}
use Rattle.pickle_subset.specs.Frame.{Frame, frames}

-- ---- rows received at a moment

abbrev pub point_or_none : Result Datapoint LineFault → Option Datapoint
point_or_none (Ok point) = Some point
point_or_none (Err fault) = None

abbrev pub row_points : ℕ → List Row → List Datapoint
row_points moment rows = filter_map (λ row. point_or_none (point_of row moment)) rows

-- how many give no datapoint
abbrev pub bad_row_count : ℕ → List Row → ℕ
bad_row_count moment rows = count_by (λ row. is_err (point_of row moment)) rows

-- ---- frames; a pickle that cannot be read gives nothing

abbrev pub rows_or_none : Result (List Row) PickleFault → List Row
rows_or_none (Ok rows) = rows
rows_or_none (Err fault) = []

abbrev pub frame_points : Frame → List Datapoint
frame_points f = row_points f.moment (rows_or_none (rows_of f.pickle))

abbrev pub frame_bad_rows : Frame → ℕ
frame_bad_rows f = bad_row_count f.moment (rows_or_none (rows_of f.pickle))

abbrev pub points : List Frame → List Datapoint
points [] = []
points (f ∷ fs) = frame_points f ++ points fs

abbrev pub bad_pickle_count : List Frame → ℕ
bad_pickle_count fs = count_by (λ f. is_err (rows_of f.pickle)) fs

abbrev pub bad_rows_count : List Frame → ℕ
bad_rows_count [] = 0
bad_rows_count (f ∷ fs) = frame_bad_rows f + bad_rows_count fs

-- ---- a connection

-- the datapoints of its frames, in order
abbrev pub accepted_points : List Arrival → List Datapoint
accepted_points c = points (frames c)

-- how many of its frames are pickles that cannot be read
abbrev pub bad_pickles : List Arrival → ℕ
bad_pickles c = bad_pickle_count (frames c)

-- how many rows of the others give no datapoint
abbrev pub bad_rows : List Arrival → ℕ
bad_rows c = bad_rows_count (frames c)
