use Rattle.relay_rules.proofs.DefaultRule.{default_anywhere}
use Rattle.relay_rules.proofs.laws.default_rule_anywhere.Goals as goal

pub returns : goal.returns
returns c = default_anywhere
