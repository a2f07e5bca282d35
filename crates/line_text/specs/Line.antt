-- What a line is: a datapoint, blank, or the first fault that it has.
use Rattle.std.specs.Prelude.{ℕ, ℤ, ◌^◌, ◌-◌, min, List, [], ◌∷◌, if◌then◌else◌, Option, Some, None, Result, Ok, Err, option_and_then, ok_or, count_by, filter_map, is_err}
use Rattle.line_text.specs.declared.fault.LineFault.{LineFault}
use Rattle.line_text.specs.declared.fault.LineFault.TheVariants.{FieldCount, BadName, BadValue, BadTime}
use Rattle.line_text.specs.Field.{fields}
use Rattle.line_text.specs.Name.{is_name}
use Rattle.line_text.specs.Number.{number_of}
use Rattle.line_text.specs.Value.{value_of}
use Rattle.line_text.specs.Time.{time_of}
use Rattle.line_text.specs.Datapoint.{Datapoint}

-- a text and the moment of its end
pub record Line : Type 0 where
  pub text : List ℕ
  pub moment : ℕ

-- a text by itself, as the lines that it is
abbrev pub one_line : List ℕ → ℕ → List Line
one_line text moment = (record { text = text; moment = moment }) ∷ []

infixl 10 ◌>>=◌
abbrev pub ◌>>=◌ : {A B : Type 0}
    → Result A LineFault → (A → Result B LineFault) → Result B LineFault
(Ok x) >>= f = f x
(Err e) >>= f = Err e

abbrev pub name_in : List ℕ → Result (List ℕ) LineFault
name_in text = if is_name text then Ok text else Err BadName

abbrev pub value_in : List ℕ → Option ℤ
value_in text = option_and_then value_of (number_of text)

abbrev pub time_in : List ℕ → ℕ → Option ℕ
time_in text moment = option_and_then (λ d. time_of d moment) (number_of text)

-- the name is looked at first, then the value, then the time
abbrev pub point_in : List ℕ → List ℕ → List ℕ → ℕ → Result Datapoint LineFault
point_in first second third moment = do
  n ← name_in first
  v ← ok_or (value_in second) BadValue
  t ← ok_or (time_in third moment) BadTime
  Ok (record { name = n; value = v; time = t })

-- no field is a blank line, and three fields may be a datapoint
abbrev pub of_fields : List (List ℕ) → ℕ → Result (Option Datapoint) LineFault
of_fields [] moment = Ok None
of_fields (first ∷ second ∷ third ∷ []) moment = do
  p ← point_in first second third moment
  Ok (Some p)
of_fields others moment = Err FieldCount

-- `Ok None` is a blank line
abbrev pub reading : Line → Result (Option Datapoint) LineFault
reading line = of_fields (fields line.text) line.moment

-- ---- lists of lines, whatever their source

abbrev pub point_or_none : Result (Option Datapoint) LineFault → Option Datapoint
point_or_none (Ok found) = found
point_or_none (Err fault) = None

-- the datapoints of lines, in order
abbrev pub points : List Line → List Datapoint
points lines = filter_map (λ line. point_or_none (reading line)) lines

-- how many lines are neither a datapoint nor blank
abbrev pub bad_count : List Line → ℕ
bad_count lines = count_by (λ line. is_err (reading line)) lines

-- a count that stays at `u64::MAX` once it is there
abbrev pub count_of : ℕ → ℕ
count_of n = min n (2 ^ 64 - 1)
