use Rattle.std.proofs.Common.{◌≡◌, ◌∷◌, []}
use Rattle.relay_core.specs.World.{Wrote}
use Rattle.replay.specs.LinesRun.{each_of, part_after}
use Rattle.replay.specs.RunEvents.{EventsHappen}
use Rattle.replay.proofs.lines_run.write_to.Given as goal

-- the parts so far were tried, and the next is the part after these
abbrev pub invariant-loop : goal.invariant-loop
invariant-loop l = record {
  happen : EventsHappen l.fn.world l.world (each_of (λ n. Wrote l.fn.dest (part_after n) ∷ []) l.counter);
  part : l.part ≡ part_after l.counter;
}
