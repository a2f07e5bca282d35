use Rattle.std.proofs.Common.{◌≡◌, ℕ, true}
use Rattle.mio_loops.specs.WriteLoop.{is_up_at}
use Rattle.senders.specs.Steps.{ConnectionsProgress}
use Rattle.senders.proofs.turn.detach_closed.Given as goal

-- those of the destinations so far that were closed have no connection
abbrev pub invariant-loop-dest : goal.invariant-loop-dest
invariant-loop-dest g l = record {
  went : ConnectionsProgress l.fn.writes l.writes;
  ups : (dest : ℕ) → is_up_at l.writes dest ≡ true → is_up_at l.fn.writes dest ≡ true;
}
