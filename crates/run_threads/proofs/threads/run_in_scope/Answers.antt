use Rattle.run_threads.proofs.ServedLemmas.{Served-kept}
use Rattle.run_threads.proofs.threads.run_in_scope.Goals as goal

-- the end that is given is that of the serving, or memory ran out after it
pub returns : goal.returns
returns g c = Served-kept _ _ _ _ _ c.serve_if-served.ensures c.end_threads.ensures
