use Rattle.line_text.proofs.ReadOnLemmas.{reads_on}
use Rattle.line_text.proofs.laws.reads_on.Goals as goal

pub returns : goal.returns
returns c = λ connection more moment opens. reads_on connection more moment opens
