use Rattle.mio_loops.proofs.StepsLemmas.{LeadTo-then}
use Rattle.mio_loops.proofs.write_laws.steps_add_up.Goals as goal

pub returns : goal.returns
returns c = LeadTo-then
