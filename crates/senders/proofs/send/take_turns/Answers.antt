use Rattle.senders.proofs.ProgressLemmas.{some-none, some-then}
use Rattle.senders.proofs.send.take_turns.Goals as goal

pub loop-init : goal.loop-init
loop-init g c = record {
  went = some-none _ c.args.writes.now (g.S.Supply.record_of c.args.supply.now.supply);
  owned = c.requires.owned;
  can_next = tt;
  is_finite = tt;
}

pub loop-preserved : goal.loop-preserved
loop-preserved g c =
    let i = c.loop.invariant in
    let e = c.take_turn.ensures in
    record {
      went = some-then _ _ _ _ _ _ _ i.went e.went;
      owned = e.owned;
      can_next = tt;
      is_finite = tt;
    }

pub returns-in-Err-clause-went : goal.returns-in-Err-clause-went
returns-in-Err-clause-went g c =
    let i = c.loop.invariant in
    let e = c.take_turn.ensures in
    some-then _ _ _ _ _ _ _ i.went e.went

pub returns-then-is_set-clause-went : goal.returns-then-is_set-clause-went
returns-then-is_set-clause-went g c =
    let i = c.loop.invariant in
    let e = c.take_turn.ensures in
    some-then _ _ _ _ _ _ _ i.went e.went
