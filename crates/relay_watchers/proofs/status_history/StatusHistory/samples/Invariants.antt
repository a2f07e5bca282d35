use Rattle.std.proofs.Common.{◌≤◌, length}
use Rattle.relay_watchers.proofs.status_history.StatusHistory.samples.Given as goal

-- those so far
abbrev pub invariant-loop-sample : goal.invariant-loop-sample
invariant-loop-sample l = length l.samples.items ≤ l.sample-index
