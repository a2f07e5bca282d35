use Rattle.std.proofs.Common.{arith}
use Rattle.line_text.proofs.DigitLemmas.{power_within, power_positive}
use Rattle.line_text.proofs.powers.power_of_ten.Goals as goal

pub pow-requires : goal.pow-requires
pow-requires c = omega (arith, power_within c.args.places c.requires)

pub returns-clause-positive : goal.returns-clause-positive
returns-clause-positive c = omega (arith, power_positive c.args.places)

pub returns-clause-within : goal.returns-clause-within
returns-clause-within c = omega (arith, power_within c.args.places c.requires)
