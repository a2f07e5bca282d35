use Rattle.std.proofs.Common.{◌≡◌, length}
use Rattle.pickle_subset.specs.Pickle.{instructions, rows_from, rows_of}
use Rattle.pickle_subset.specs.Views.{machine}
use Rattle.pickle_subset.proofs.loading.carry_out.Given as goal

-- what is left gives, from here on, what the pickle gives
abbrev pub invariant-loop-rest : goal.invariant-loop-rest
invariant-loop-rest g l = rows_from (machine l.machine) (instructions l.rest) ≡ rows_of l.pickle

abbrev pub decreases-loop-rest : goal.decreases-loop-rest
decreases-loop-rest g l = length l.rest
