use Rattle.run_threads.proofs.ServedLemmas.{Served-of, Served-nothing}
use Rattle.run_threads.proofs.threads.serve_if.Goals as goal

pub returns-then-not-are_begun : goal.returns-then-not-are_begun
returns-then-not-are_begun g c = Served-nothing _ _

pub returns-then-is_ok : goal.returns-then-is_ok
returns-then-is_ok g c = rw (← c.is_first.ensures) (Served-of _ _ _ c.say_opening-said.result c.say_opening-said.ensures.ok c.say_opening-said.ensures.err)

pub returns-else-is_ok : goal.returns-else-is_ok
returns-else-is_ok g c = rw (← c.is_first.ensures) (Served-of _ _ _ c.say_opening-said.result c.say_opening-said.ensures.ok c.say_opening-said.ensures.err)
