-- The datapoint of a row.
use Rattle.std.specs.Prelude.{ℕ, ℤ, pos, nat_abs, int_lt, ◌*ℤ◌, List, if◌then◌else◌, Option, Some, None, Result, Ok, ok_or}
use Rattle.line_text.specs.declared.fault.LineFault.{LineFault}
use Rattle.line_text.specs.declared.fault.LineFault.TheVariants.{BadValue, BadTime}
use Rattle.line_text.specs.Datapoint.{Datapoint}
use Rattle.line_text.specs.Name.{is_name}
use Rattle.line_text.specs.Value.{units_of_one}
use Rattle.line_text.specs.Line.{◌>>=◌, name_in, value_in, time_in}
use Rattle.pickle_subset.specs.Value.{Scalar, Text, Whole, Binary, Other, Row}
use Rattle.pickle_subset.specs.Binary.{binary_value, binary_time, whole_time}

-- the name that a text is
abbrev pub path_name : List ℕ → Option (List ℕ)
path_name text = if is_name text then Some text else None

-- in units: a whole number has those of 1 that number of times, and a text is read as in a line
abbrev pub scalar_value : Scalar → Option ℤ
scalar_value (Text text) = value_in text
scalar_value (Whole number) = Some (number *ℤ pos units_of_one)
scalar_value (Binary bits) = binary_value bits
scalar_value Other = None

-- -1 is the moment
abbrev pub scalar_time : Scalar → ℕ → Option ℕ
scalar_time (Text text) moment = time_in text moment
scalar_time (Whole number) moment = whole_time (int_lt number (pos 0)) (nat_abs number) moment
scalar_time (Binary bits) moment = binary_time bits moment
scalar_time Other moment = None

-- the path is looked at first, then the value, then the time
abbrev pub point_of : Row → ℕ → Result Datapoint LineFault
point_of row moment = do
  name ← name_in row.path
  value ← ok_or (scalar_value row.value) BadValue
  time ← ok_or (scalar_time row.time moment) BadTime
  Ok (record { name = name; value = value; time = time })
