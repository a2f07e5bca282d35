use Rattle.std.proofs.Common.{◌≡◌, length}
use Rattle.senders.specs.Steps.{AllUpOwned, ConnectionsProgress}
use Rattle.senders.proofs.turn.connect_all.Given as goal

-- the destinations so far are connected, as far as can be
abbrev pub invariant-loop-dest : goal.invariant-loop-dest
invariant-loop-dest g l = record {
  went : ConnectionsProgress l.fn.writes l.writes;
  dests : length l.writes ≡ l.dest-end;
  owned : AllUpOwned (g.S.Supply.is_owned l.supply.supply) l.writes;
}
