use Rattle.dest_writer.proofs.WriterLemmas.{leaves-the_rest}
use Rattle.dest_writer.proofs.laws.leaves_the_rest.Goals as goal

pub returns : goal.returns
returns c = leaves-the_rest
