use Rattle.queue_records.specs.Takes.{IsHandedBy}
use Rattle.senders.proofs.ProgressLemmas.{some-then, some-connections, some-as, went-turn}
use Rattle.senders.proofs.turn.take_turn.Goals as goal

pub returns-in_err-wait-clause-went : goal.returns-in_err-wait-clause-went
returns-in_err-wait-clause-went g c =
    let may_hand = IsHandedBy g.S.Supply.record_of g.S.Supply.may_hand in
    some-then may_hand _ _ _ _ _ _ (some-connections may_hand _ _ _ c.connect_all.ensures.went) c.serve_before_wait-pause.ensures.went

pub returns-clause-went : goal.returns-clause-went
returns-clause-went g c =
    let may_hand = IsHandedBy g.S.Supply.record_of g.S.Supply.may_hand in
    let served = some-then may_hand _ _ _ _ _ _ (some-connections may_hand _ _ _ c.connect_all.ensures.went) c.serve_before_wait-pause.ensures.went in
    let closed = some-then may_hand _ _ _ _ _ _ served (some-connections may_hand _ _ _ c.detach_closed.ensures.went) in
    let turn = some-as _ may_hand (λ made dest limit points h. (h.0.supply, h.1, h.2)) _ _ _ _ (went-turn _ _ _ _ _ _ _ _ c.turn.ensures.turn.1) in
    some-then may_hand _ _ _ _ _ _ closed turn
