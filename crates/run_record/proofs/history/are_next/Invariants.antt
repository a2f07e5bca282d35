use Rattle.std.proofs.Common.{◌≡◌, length, take}
use Rattle.run_record.specs.QueueSteps.{AreUpTo, steps_numbered}
use Rattle.run_record.proofs.history.are_next.Given as goal

-- the places are behind the steps so far
abbrev pub invariant-loop-number : goal.invariant-loop-number
invariant-loop-number l =
    record {
      count : length l.places ≡ length l.histories;
      up_to : AreUpTo l.histories l.places (steps_numbered l.histories (take l.number-index l.order));
    }
