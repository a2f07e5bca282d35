use Rattle.relay_rules.proofs.Places.{rule_route_below}
use Rattle.relay_rules.proofs.laws.route_stays_below.Goals as goal

pub returns : goal.returns
returns c = rule_route_below c.first_mentions_stay_below.ensures
