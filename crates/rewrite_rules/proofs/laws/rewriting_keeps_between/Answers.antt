use Rattle.rewrite_rules.proofs.Between.{keeps_between}
use Rattle.rewrite_rules.proofs.laws.rewriting_keeps_between.Goals as goal

pub returns : goal.returns
returns c = keeps_between
