-- The line for an example of bad input.
use Rattle.std.specs.Prelude.{ℕ, Bool, true, false, Some, List, ◌++◌, ◌||◌, nat_le, codes, decimal, encode_utf8, if◌then◌else◌}
use Rattle.std.specs.Net.Text.{ip_text}
use Rattle.log_lines.specs.CountsLine.{plural}
use Rattle.log_lines.specs.declared.bad_example.BadExample.{BadExample}
use Rattle.log_lines.specs.declared.bad_example.BadInput.{BadInput}
use Rattle.log_lines.specs.declared.bad_example.LoggedExample.{LoggedExample}
use Rattle.log_lines.specs.declared.bad_example.BadPickle.{BadPickle}
use Rattle.log_lines.specs.declared.bad_example.BadInput.TheVariants as input
use Rattle.log_lines.specs.declared.bad_example.BadPickle.TheVariants as pickle

-- what is bad
abbrev pub kind_words : BadInput → List ℕ
kind_words (input.Fields count) = codes "bad line"
kind_words input.Name = codes "bad line"
kind_words input.Value = codes "bad line"
kind_words input.Time = codes "bad line"
kind_words (input.Pickle why) = codes "bad pickle"
kind_words input.Row = codes "bad row"
kind_words input.NewName = codes "bad name"

-- an opcode of a protocol, as a character
abbrev pub quoted_words : (byte protocol : ℕ) → List ℕ
quoted_words byte protocol = codes "opcode '" ++ encode_utf8 byte ++ codes "' of protocol " ++ decimal protocol

-- an opcode of a protocol: a character that prints, or its number
abbrev pub opcode_words : (byte protocol : ℕ) → List ℕ
opcode_words byte protocol =
    if nat_le byte 32 || nat_le 127 byte
    then codes "opcode " ++ decimal byte ++ codes " of protocol " ++ decimal protocol
    else quoted_words byte protocol

-- why a pickle cannot be read
abbrev pub pickle_words : BadPickle → List ℕ
pickle_words pickle.Unknown = codes "cannot be read"
pickle_words pickle.NoPickle = codes "not a pickle"
pickle_words (pickle.Protocol protocol) = codes "protocol " ++ decimal protocol
pickle_words (pickle.Opcode byte protocol) = opcode_words byte protocol
pickle_words pickle.CutOff = codes "ends too early"
pickle_words pickle.NoRows = codes "not a list of rows"
pickle_words pickle.Memo = codes "a memo entry that is not there"
pickle_words pickle.Text = codes "a text that is not UTF-8"

-- what is wrong with it
abbrev pub wrong_words : BadInput → List ℕ
wrong_words (input.Fields count) = decimal count ++ codes " field" ++ plural count
wrong_words input.Name = codes "not a metric name"
wrong_words input.Value = codes "not a value"
wrong_words input.Time = codes "not a time"
wrong_words (input.Pickle why) = pickle_words why
wrong_words input.Row = codes "not a datapoint"
wrong_words input.NewName = codes "not a metric name after rewriting"

-- the line for an example of a receiver of a name: what is bad, who sent it, and what is wrong with it
abbrev pub example_line : List ℕ → BadExample → List ℕ
example_line name example =
    codes "receiver " ++ name ++ codes ": " ++ kind_words example.input ++ codes " from " ++ ip_text example.from
    ++ codes ": " ++ wrong_words example.input ++ codes "\n"

-- when the log has written its last example, after a look that found a line due or did not
abbrev pub example_logged_after : LoggedExample → ℕ → Bool → LoggedExample
example_logged_after logged millis true = record { at = Some millis }
example_logged_after logged millis false = logged
