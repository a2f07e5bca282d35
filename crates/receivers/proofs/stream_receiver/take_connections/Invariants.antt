use Rattle.std.proofs.Common.{◌≡◌}
use Rattle.receivers.proofs.stream_receiver.take_connections.Given as goal

-- readers and log are as they were
abbrev pub invariant-loop : goal.invariant-loop
invariant-loop g l = record {
  first : l.reads.first ≡ l.fn.reads.first;
  readers : l.reads.readers ≡ l.fn.reads.readers;
  log : l.reads.log ≡ l.fn.reads.log;
}
