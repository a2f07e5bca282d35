use Rattle.router.proofs.Routes.{stays}
use Rattle.router.proofs.laws.route_stays_below.Goals as goal

pub returns : goal.returns
returns c = stays c.route_stays_below.ensures c.choice_stays_below.ensures
