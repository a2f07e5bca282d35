use Rattle.replay.specs.LinesRun.{each_of, hands_to}
use Rattle.replay.specs.RunEvents.{EventsHappen}
use Rattle.replay.proofs.lines_run.hand_over.Given as goal

-- the events of the destinations so far
abbrev pub invariant-loop-dest : goal.invariant-loop-dest
invariant-loop-dest l = EventsHappen l.fn.world l.world (each_of hands_to l.dest)
