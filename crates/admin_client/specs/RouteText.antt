-- What clauses see of an answer to `route`.
use Rattle.admin_client.specs.RouteAnswer.{RouteEnd, Sent, Dropped}
use Rattle.admin_client.specs.declared.route_answer.RouteAnswer.{RouteAnswer}
use Rattle.admin_client.specs.declared.route_answer.RouteAnswer.TheVariants as said

abbrev pub route_said : RouteAnswer → RouteEnd
route_said (said.Sent line) = Sent line.now
route_said said.Dropped = Dropped
