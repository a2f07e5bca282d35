use Rattle.router.proofs.Routes.{each_once}
use Rattle.router.proofs.laws.route_names_each_once.Goals as goal

pub returns : goal.returns
returns c = each_once c.route_names_each_once.ensures c.choice_names_each_once.ensures
