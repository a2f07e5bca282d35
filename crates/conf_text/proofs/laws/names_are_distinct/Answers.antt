use Rattle.conf_text.proofs.DistinctNames.{names_are_distinct}
use Rattle.conf_text.proofs.laws.names_are_distinct.Goals as goal

pub returns : goal.returns
returns c = names_are_distinct
