use Rattle.std.proofs.Common.{◌≤◌, length}
use Rattle.relay_watchers.proofs.dest_track.drop_first.Given as goal

-- no more than there were
abbrev pub invariant-loop : goal.invariant-loop
invariant-loop g l = length l.items.items ≤ length l.fn.items.items
