use Rattle.settled_run.proofs.LinesTaken.{kept-is}
use Rattle.settled_run.proofs.laws.lines_taken.Goals as goal

pub returns : goal.returns
returns c = kept-is c.one_line.ensures
