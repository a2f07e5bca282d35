use Rattle.std.proofs.Common.{◌≡◌, ◌+◌, ◌≤◌, length}
use Rattle.relay_watchers.proofs.dest_track.thin.Given as goal

-- one fewer with each step
abbrev pub invariant-loop : goal.invariant-loop
invariant-loop l = record {
  place : l.place ≡ l.counter;
  fewer : length l.marks.items + l.counter ≤ length l.fn.marks.items;
}
