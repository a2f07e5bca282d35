use Rattle.dest_writer.proofs.WriterLemmas.{writes-add_up}
use Rattle.dest_writer.proofs.laws.writes_add_up.Goals as goal

pub returns : goal.returns
returns c = writes-add_up
