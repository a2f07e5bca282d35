use Rattle.backlog.proofs.SegmentsLemmas.{all-whole_lines}
use Rattle.backlog.proofs.laws.got_whole_lines.Goals as goal

pub returns : goal.returns
returns c = all-whole_lines
