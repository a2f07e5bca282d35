use Rattle.std.proofs.Common.{◌≡◌, ◌-◌}
use Rattle.locked_queues.specs.Shares.{keeper_of}
use Rattle.locked_queues.proofs.opening.skip_totals.Given as goal

-- the totals of the last places were given up
abbrev pub invariant-loop-skipped : goal.invariant-loop-skipped
invariant-loop-skipped g l = record {
  table : l.first.table_id ≡ l.initial.first.table_id;
  keeps : l.first.me.0 ≡ keeper_of (200 - l.skipped);
}
