use Rattle.std.proofs.Common.{arith}
use Rattle.std.proofs.lemmas.Grind.{common_steps}
use Rattle.common_orders.proofs.Searching.{times_push}
use Rattle.common_orders.proofs.search.push_if_free.Goals as goal

pub returns-in_ok-map_err-clause-times : goal.returns-in_ok-map_err-clause-times
returns-in_ok-map_err-clause-times c = λ x. let pushed = times_push x c.args.number c.args.ready.now.items in grind (arith, common_steps)
