use Rattle.std.proofs.Common.{◌∙◌, sym}
use Rattle.senders.proofs.ProgressLemmas.{connections-none, connections-then}
use Rattle.senders.proofs.turn.connect_all.Goals as goal

pub loop-dest-init : goal.loop-dest-init
loop-dest-init g c = record {
  went = connections-none _;
  dests = sym c.dests-dest-end.ensures.count;
  owned = c.requires.owned;
}

pub loop-dest-preserved : goal.loop-dest-preserved
loop-dest-preserved g c =
    let i = c.loop-dest.invariant in
    let e = c.connect_one.ensures in
    record {
      went = connections-then _ _ _ i.went e.went;
      dests = e.dests ∙ i.dests;
      owned = e.owned;
    }
