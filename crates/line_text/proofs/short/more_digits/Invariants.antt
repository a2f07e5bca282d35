use Rattle.std.proofs.Common.{◌^◌}
use Rattle.line_text.specs.Number.{with_digits}
use Rattle.line_text.proofs.DigitLemmas.{HasRead}
use Rattle.line_text.proofs.short.more_digits.Given as goal

-- what is left gives what all gave, and there is room for it
abbrev pub invariant-loop-b : goal.invariant-loop-b
invariant-loop-b l = HasRead l.digits l.b-index l.number (with_digits l.fn.number l.digits) (10 ^ 18)
