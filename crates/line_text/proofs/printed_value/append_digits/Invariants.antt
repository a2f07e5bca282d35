use Rattle.std.proofs.Common.{◌≡◌, ◌+◌, ◌-◌, ◌<◌, ◌≤◌, vec_len, vec_capacity}
use Rattle.line_text.specs.Value.{units_of_one}
use Rattle.line_text.proofs.PrintLemmas.{HasWritten}
use Rattle.line_text.proofs.printed_value.append_digits.Given as goal

-- the first digits are appended, and the rest is below 1
abbrev pub invariant-loop-rest : goal.invariant-loop-rest
invariant-loop-rest l = record {
  written : HasWritten l.fn.bytes.items l.bytes.items l.fraction l.places l.rest;
  small : l.rest < units_of_one;
  places : l.places ≤ 10;
  len : vec_len l.bytes ≡ vec_len l.fn.bytes + l.places;
  capacity : vec_capacity l.fn.bytes ≤ vec_capacity l.bytes;
}

abbrev pub decreases-loop-rest : goal.decreases-loop-rest
decreases-loop-rest l = 10 - l.places
