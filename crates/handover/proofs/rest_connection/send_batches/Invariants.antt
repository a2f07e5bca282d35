use Rattle.std.proofs.Common.{◌≡◌, true}
use Rattle.dest_writer.specs.Counting.{stream_of}
use Rattle.handover.specs.Rest.{TookFirst, left_text}
use Rattle.handover.proofs.rest_connection.send_batches.Given as goal

-- the connection took what came first of the rest
abbrev pub invariant-loop : goal.invariant-loop
invariant-loop g l =
    record {
      up : l.rest.writer.up ≡ true;
      took : TookFirst (left_text l.initial.rest) (left_text l.rest) (g.W.Write.contents (stream_of l.initial.sink)) (g.W.Write.contents (stream_of l.sink));
    }
