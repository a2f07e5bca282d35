use Rattle.std.proofs.Common.{sym, arith}
use Rattle.pickle_subset.proofs.BinaryLemmas.{units-none}
use Rattle.pickle_subset.proofs.binary.nearest_units.Goals as goal

pub returns-then-places-gt-UNITS_BITS : goal.returns-then-places-gt-UNITS_BITS
returns-then-places-gt-UNITS_BITS c = sym (units-none c.args.significand c.args.places c.requires (omega arith))
