use Rattle.reader_core.proofs.Representing.{Represents-closed}
use Rattle.reader_core.proofs.laws.closed_as_read.Goals as goal

pub returns : goal.returns
returns c = λ s kind plan input taken represents. Represents-closed s kind plan input taken represents
