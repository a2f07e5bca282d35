use Rattle.line_text.proofs.DigitLemmas.{BeginsWith}
use Rattle.line_text.proofs.short.leading_digits.Given as goal

-- the number is that of the digits so far
abbrev pub invariant-loop-len : goal.invariant-loop-len
invariant-loop-len l = BeginsWith l.text l.len l.number
