use Rattle.std.proofs.Common.{refl}
use Rattle.senders.proofs.AttachLemmas.{went-detach}
use Rattle.senders.proofs.turn.detach_if_closed.Goals as goal

pub returns-then-has_closed-clause-went : goal.returns-then-has_closed-clause-went
returns-then-has_closed-clause-went g c =
    let e = c.detach.ensures in
    went-detach c.args.dest.0 c.args.writes.now c.detach.new.self _ refl e.detached e.no_such_dest
