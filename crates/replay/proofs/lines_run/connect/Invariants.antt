use Rattle.std.proofs.Common.{◌∷◌, []}
use Rattle.relay_core.specs.World.{Up}
use Rattle.replay.specs.LinesRun.{each_of}
use Rattle.replay.specs.RunEvents.{EventsHappen}
use Rattle.replay.proofs.lines_run.connect.Given as goal

-- the events of the destinations so far
abbrev pub invariant-loop-dest : goal.invariant-loop-dest
invariant-loop-dest l = EventsHappen l.fn.world l.world (each_of (λ d. Up d ∷ []) l.dest)
