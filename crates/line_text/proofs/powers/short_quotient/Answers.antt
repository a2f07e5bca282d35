use Rattle.std.proofs.Common.{arith}
use Rattle.line_text.proofs.DigitLemmas.{power_positive}
use Rattle.line_text.proofs.powers.short_quotient.Goals as goal

pub nonzero_div-digits : goal.nonzero_div-digits
nonzero_div-digits c = omega (arith, power_positive c.args.places, c.pow.ensures)
