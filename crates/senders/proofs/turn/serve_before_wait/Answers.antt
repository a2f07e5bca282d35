use Rattle.senders.proofs.ProgressLemmas.{some-then}
use Rattle.senders.proofs.turn.serve_before_wait.Goals as goal

pub returns-clause-went : goal.returns-clause-went
returns-clause-went g c =
    some-then _ _ _ _ _ _ _ c.serve_due.ensures.went c.serve_due-2.ensures.went
