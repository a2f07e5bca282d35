use Rattle.backlog.specs.Lines.{whole_lines}
use Rattle.backlog.proofs.ConnectionsLemmas.{all-whole}
use Rattle.backlog.proofs.LinesLemmas.{whole-twice}
use Rattle.backlog.proofs.laws.begins_a_line.Goals as goal

pub returns : goal.returns
returns c = λ connections. all-whole whole_lines connections whole-twice
