use Rattle.reader_core.proofs.Plans.{plan_sends, plan_routes_once}
use Rattle.reader_core.proofs.laws.configuration_of_plan.Goals as goal

pub returns-clause-sends : goal.returns-clause-sends
returns-clause-sends c = plan_sends

pub returns-clause-once : goal.returns-clause-once
returns-clause-once c = plan_routes_once c.route_names_each_once.ensures
