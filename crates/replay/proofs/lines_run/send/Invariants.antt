use Rattle.replay.specs.LinesRun.{each_of, sends_of}
use Rattle.replay.specs.RunEvents.{EventsHappen}
use Rattle.replay.proofs.lines_run.send.Given as goal

-- the events of the offers so far
abbrev pub invariant-loop : goal.invariant-loop
invariant-loop l = EventsHappen l.fn.world l.world (each_of (λ n. sends_of l.fn.dests) l.counter)
