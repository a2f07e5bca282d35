use Rattle.senders.specs.Record.{AreNone}
use Rattle.senders.proofs.send.no_logs.Given as goal

abbrev pub invariant-loop : goal.invariant-loop
invariant-loop l = AreNone l.logs.items
