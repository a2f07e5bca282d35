use Rattle.std.proofs.Common.{refl}
use Rattle.pickle_subset.proofs.laws.writes_as_python.Goals as goal

-- each list and its bytes compute to the same
pub returns : goal.returns
returns c = (refl, refl, refl, refl, refl, refl, refl, refl, refl, refl, refl, refl, refl, refl, refl, refl, refl, refl, refl, refl, refl, refl, refl, refl, refl, refl, refl, refl, refl, refl, refl, refl, refl, refl)
