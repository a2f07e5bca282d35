use Rattle.std.proofs.Common.{sym, subst}
use Rattle.queue_records.specs.Takes.{IsHandedBy}
use Rattle.senders.specs.Steps.{SomeProgress}
use Rattle.senders.proofs.ProgressLemmas.{went-turn, some-as}
use Rattle.senders.proofs.turn.serve_due.Goals as goal

pub returns-clause-went : goal.returns-clause-went
returns-clause-went g c =
    let may_hand = IsHandedBy g.S.Supply.record_of g.S.Supply.may_hand in
    let turn = some-as _ may_hand (λ made dest limit points h. (h.0.supply, h.1, h.2)) _ _ _ _ (went-turn _ _ _ _ _ _ _ _ c.turn.ensures.turn.1) in
    subst (λ (s : g.row.S.Denot). SomeProgress may_hand c.args.writes.now c.turn.new.self (g.S.Supply.record_of c.args.supply.now.supply) (g.S.Supply.record_of s))
    (sym c.taken-taken.ensures) turn
