use Rattle.std.proofs.Common.{◌≡◌, ℕ, List, true}
use Rattle.queue_records.specs.Takes.{IsHandedBy}
use Rattle.mio_loops.specs.WriteTurn.{TurnAt}
use Rattle.mio_loops.specs.WriteLoop.{is_among, is_up_at}
use Rattle.mio_loops.proofs.TurnsLemmas.{TurnsSoFar}
use Rattle.mio_loops.proofs.all_destinations.take_turns.Given as goal

-- the turns of the destinations so far
abbrev pub invariant-loop-dest : goal.invariant-loop-dest
invariant-loop-dest g l = record {
  so_far : (turns : List (TurnAt g.row.W.Denot))
      × TurnsSoFar g.W.Write.contents (IsHandedBy g.S.Supply.record_of g.S.Supply.may_hand) (is_among l.ready) turns l.fn.destinations l.destinations l.dest
      (g.S.Supply.record_of l.fn.supply) (g.S.Supply.record_of l.supply) l.report;
  ups : (dest : ℕ) → is_up_at l.destinations dest ≡ true → is_up_at l.fn.destinations dest ≡ true;
  owners : (dest : ℕ) → g.S.Supply.is_owned l.supply dest ≡ g.S.Supply.is_owned l.fn.supply dest;
}
