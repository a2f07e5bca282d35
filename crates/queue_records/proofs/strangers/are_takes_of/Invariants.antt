use Rattle.std.proofs.Common.{◌≡◌, ◌<◌, ℕ, slice_get, Some}
use Rattle.queue_records.specs.Strangers.{IsTakeOf}
use Rattle.queue_records.specs.declared.taken_batch.TakenBatch.{TakenBatch}
use Rattle.queue_records.proofs.strangers.are_takes_of.Given as goal

-- the first takes are
abbrev pub invariant-loop-entry : goal.invariant-loop-entry
invariant-loop-entry l = (i : ℕ) (e : TakenBatch) → i < l.entry-index → slice_get l.takes i ≡ Some e → IsTakeOf l.dests l.senders l.sender e
