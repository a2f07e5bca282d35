use Rattle.std.specs.Option.{is_none}
use Rattle.relay_run.proofs.RunEndings.{Begun}
use Rattle.relay_run.proofs.run_command.run_all.Given as goal

-- what the runs so far have written
abbrev pub invariant-loop : goal.invariant-loop
invariant-loop g l = record {
  begun : Begun (is_none l.next.before.waiting) (g.W.Write.contents l.fn.output) (g.W.Write.contents l.output);
  can_next : (goal.iterator-loop g).can_next l.iterator';
  is_finite : (goal.iterator-loop g).is_finite l.iterator';
}

-- the names of the set of each run: its table, and its numbers
abbrev pub ghosts-run_relay : goal.ghosts-run_relay
ghosts-run_relay g a =
    record {
      table = a.next.start.blank;
      name = 1;
      dests = a.next.start.begun.shape.dests;
      receivers = a.next.start.begun.shape.receivers;
      senders = a.next.start.begun.shape.senders;
      size = a.next.start.begun.shape.size;
    }
