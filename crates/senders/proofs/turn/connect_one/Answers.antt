use Rattle.senders.proofs.AttachLemmas.{went-attach}
use Rattle.senders.proofs.turn.connect_one.Goals as goal

pub returns-in-Some-clause-went : goal.returns-in-Some-clause-went
returns-in-Some-clause-went g c =
    let e = c.attach.ensures in
    went-attach c.attach.result c.args.dest.0 c.args.writes.now c.attach.new.self e.attached
    (λ a. (a.0, a.1, a.2, a.3, a.6)) e.unchanged
