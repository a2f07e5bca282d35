use Rattle.std.proofs.Common.{◌≡◌, take, map}
use Rattle.std.specs.Vec.{vec_len, vec_capacity}
use Rattle.dest_queue.specs.Step.{recorded_of}
use Rattle.locked_queues.proofs.copies.copy_steps.Given as goal

-- the first steps are copied
abbrev pub invariant-loop-step : goal.invariant-loop-step
invariant-loop-step l = record {
  copied : map recorded_of l.copies.items ≡ map recorded_of (take l.step-index l.steps);
  count : vec_len l.copies ≡ l.step-index;
  room : vec_capacity l.copies ≡ vec_capacity l.initial.copies;
}
