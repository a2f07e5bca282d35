use Rattle.relay_rules.specs.Route.{mentions, rule_route}
use Rattle.relay_rules.proofs.laws.route_names_each_once.Goals as goal

pub returns : goal.returns
unfolding rule_route
returns c = λ list name. c.first_mentions_name_each_once.ensures (mentions list name)
