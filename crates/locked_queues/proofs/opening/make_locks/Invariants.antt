use Rattle.std.proofs.Common.{◌≡◌, ◌*◌, ◌-◌, ◌+◌}
use Rattle.std.specs.Vec.{vec_len, vec_capacity}
use Rattle.locked_queues.specs.Shares.{keeper_of}
use Rattle.locked_queues.proofs.opening.make_locks.Given as goal

-- the locks made so far, the last ones
abbrev pub invariant-loop-place : goal.invariant-loop-place
invariant-loop-place g l = record {
  table : l.first.table_id ≡ l.initial.first.table_id;
  keeps : l.first.me.0 ≡ keeper_of (8 + 3 * (l.dests - l.place));
  locks : vec_len l.locks ≡ l.place;
  room : vec_capacity l.locks ≡ vec_capacity l.initial.locks;
}
