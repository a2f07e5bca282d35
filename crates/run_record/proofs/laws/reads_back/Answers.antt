use Rattle.run_record.proofs.ScriptLemmas.{read_back}
use Rattle.run_record.proofs.laws.reads_back.Goals as goal

pub returns : goal.returns
returns c = λ kinds events are. read_back kinds events are
