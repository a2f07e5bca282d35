use Rattle.backlog.proofs.SegmentsLemmas.{kept-once}
use Rattle.backlog.proofs.laws.kept_once_in_order.Goals as goal

pub returns : goal.returns
returns c = kept-once
