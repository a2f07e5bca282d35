use Rattle.std.proofs.Common.{◌≤◌, length}
use Rattle.relay_watchers.proofs.dest_track.add_losses.Given as goal

-- no more than are remembered, if there were no more
abbrev pub invariant-loop : goal.invariant-loop
invariant-loop l = length l.fn.losses.items ≤ 60 → length l.losses.items ≤ 60
