-- Moments in decimal digits.
use Rattle.std.specs.Prelude.{ℕ, List, Option}
use Rattle.relay_base.specs.WholeNumber.{whole_number_up_to}
use Rattle.line_text.specs.Time.{last_time}

-- the moment in seconds that a text writes, if it is decimal digits alone and at most the last time
abbrev pub moment_in : List ℕ → Option ℕ
moment_in text = whole_number_up_to last_time text
