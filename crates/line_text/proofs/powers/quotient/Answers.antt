use Rattle.std.proofs.Common.{arith, sym}
use Rattle.line_text.proofs.DigitLemmas.{div-all}
use Rattle.line_text.proofs.powers.quotient.Goals as goal

pub returns-then-places-gt-MOST_DIGITS : goal.returns-then-places-gt-MOST_DIGITS
returns-then-places-gt-MOST_DIGITS c = sym (div-all c.args.digits c.args.places c.requires (omega arith))
