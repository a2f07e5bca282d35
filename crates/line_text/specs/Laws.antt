-- What holds for the definitions.
use Rattle.std.specs.Prelude.{◌≡◌, ℕ, ◌+◌, ◌*◌, ◌^◌, ◌≤◌, ℤ, pos, nat_abs, ◌*ℤ◌, ◌≤ℤ◌, true, List, [], ◌∷◌, ◌++◌, length, filter, Some, Ok, ◌↔◌, ◌==◌}
use Rattle.std.specs.Fmt.{signed_decimal}
use Rattle.relay_base.specs.Ascii.{newline}
use Rattle.line_text.specs.Datapoint.{Datapoint}
use Rattle.line_text.specs.Name.{is_name}
use Rattle.line_text.specs.Number.{Decimal}
use Rattle.line_text.specs.Value.{IsValueOf, value_of, units_of_one, most_units, places_left, places_right, scale, distance}
use Rattle.line_text.specs.Time.{IsWholePart, whole_part, last_time}
use Rattle.line_text.specs.Line.{reading}
use Rattle.line_text.specs.Connection.{Arrival, arrivals, cut, accepted_points, bad_lines, is_open, is_closed}
use Rattle.line_text.specs.Datagram as datagrams
use Rattle.line_text.specs.Datagram.{is_line_break}
use Rattle.line_text.specs.Reader.{GivesNoMore}
use Rattle.line_text.specs.Print.{printed_line, printed_text, printed_value, longest_printed}

-- what always holds for a datapoint of the code
pub record IsDatapoint (p : Datapoint) : Type 0 where
  pub name : is_name p.name ≡ true
  pub value : nat_abs p.value ≤ most_units
  pub time : p.time ≤ last_time

-- the computed value is the number of units nearest to the decimal, and there is none if that is out of range
abbrev pub ValueLaw : Type 0
ValueLaw = (d : Decimal) (u : ℤ) → (value_of d ≡ Some u) ↔ IsValueOf d u

-- one decimal is at most another: their fractions, compared crosswise
abbrev pub IsAtMost : Decimal → Decimal → Type 0
IsAtMost d e =
    (d.mantissa *ℤ pos (10 ^ places_right d.exponent * scale e))
    ≤ℤ (e.mantissa *ℤ pos (10 ^ places_right e.exponent * scale d))

-- rounding keeps the order of any two numbers that have a value
abbrev pub ValueOrderLaw : Type 0
ValueOrderLaw =
    (d e : Decimal) (u v : ℤ) → IsAtMost d e → value_of d ≡ Some u → value_of e ≡ Some v → u ≤ℤ v

-- the value of a number with at most ten decimals is the number itself
abbrev pub ValueExactLaw : Type 0
ValueExactLaw =
    (d : Decimal) (u : ℤ) → places_left d.exponent ≤ 10 → value_of d ≡ Some u → distance d u ≡ 0

-- the computed whole part is the greatest whole number that the magnitude reaches
abbrev pub WholePartLaw : Type 0
WholePartLaw = (d : Decimal) (t : ℕ) → (whole_part d ≡ t) ↔ IsWholePart d t

-- more bytes on a connection only add to what is accepted of it
abbrev pub OnlyGrows : (List Arrival → List Datapoint) → Type 0
OnlyGrows accepted =
    (a b : List Arrival) → (gained : List Datapoint) × (accepted (a ++ b) ≡ accepted a ++ gained)

-- more bytes on a connection only add datapoints
abbrev pub AcceptedGrowsLaw : Type 0
AcceptedGrowsLaw = OnlyGrows accepted_points

-- a connection gives nothing before its first byte
abbrev pub NothingAtFirstLaw : Type 0
NothingAtFirstLaw = accepted_points [] ≡ []

-- a reader reads nothing more of a closed connection, whatever follows on it
abbrev pub StaysClosedLaw : Type 0
StaysClosedLaw = (c : List Arrival) → is_closed c ≡ true → GivesNoMore c

-- of a connection that is not closed, what a reader gives that goes on behind what the first one kept of it, whenever that is
-- fed to it: together they give what one reader gives of the whole
pub record ReadsOn (c more : List Arrival) (moment : ℕ) : Type 0 where
  pub accepted_points : accepted_points (c ++ more)
      ≡ accepted_points c ++ accepted_points (arrivals (cut c).unended moment ++ more)
  pub bad : bad_lines (c ++ more)
      ≡ bad_lines c + bad_lines (arrivals (cut c).unended moment ++ more)
  pub stays_open : is_open (c ++ more) ≡ is_open (arrivals (cut c).unended moment ++ more)

abbrev pub ReadsOnLaw : Type 0
ReadsOnLaw =
    (c more : List Arrival) (moment : ℕ) → is_open c ≡ true → ReadsOn c more moment

-- the text before a line break is read as a datagram by itself, and so is the text after it
abbrev pub DatagramsJoinLaw : Type 0
DatagramsJoinLaw =
    (before after : List ℕ) (b moment : ℕ) → is_line_break b ≡ true
    → datagrams.accepted_points (before ++ b ∷ after) moment
    ≡ datagrams.accepted_points before moment ++ datagrams.accepted_points after moment

-- a printed line, less its newline, is read back as the same datapoint, at any moment
abbrev pub ReadsBackLaw : Type 0
ReadsBackLaw =
    (p : Datapoint) → IsDatapoint p → (moment : ℕ)
    → reading (record { text = printed_text p; moment = moment }) ≡ Ok (Some p)

-- the value of each whole number is printed as that whole number
abbrev pub WholePrintedLaw : Type 0
WholePrintedLaw = (n : ℤ) → printed_value (n *ℤ pos units_of_one) ≡ signed_decimal n

-- a printed line has one newline, at its end, and at most as many bytes as the longest
pub record IsOneLine (p : Datapoint) : Type 0 where
  pub ends : printed_line p ≡ printed_text p ++ newline ∷ []
  pub one : filter (λ b. b == newline) (printed_line p) ≡ newline ∷ []
  pub short : length (printed_line p) ≤ longest_printed

abbrev pub OneLineLaw : Type 0
OneLineLaw = (p : Datapoint) → IsDatapoint p → IsOneLine p
