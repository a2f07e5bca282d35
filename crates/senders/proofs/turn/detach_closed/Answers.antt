use Rattle.senders.proofs.ProgressLemmas.{connections-none, connections-then}
use Rattle.senders.proofs.turn.detach_closed.Goals as goal

pub loop-dest-init : goal.loop-dest-init
loop-dest-init g c = record {
  went = connections-none _;
  ups = λ dest up. up;
}

pub loop-dest-preserved : goal.loop-dest-preserved
loop-dest-preserved g c =
    let i = c.loop-dest.invariant in
    let e = c.detach_if_closed.ensures in
    record {
      went = connections-then _ _ _ i.went e.went;
      ups = λ dest up. i.ups dest (e.ups dest up);
    }
