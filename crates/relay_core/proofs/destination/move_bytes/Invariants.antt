use Rattle.std.proofs.Common.{◌≡◌, ◌≤◌, ◌+◌, ◌++◌, true, vec_len, vec_capacity}
use Rattle.dest_writer.specs.Writer.{left, bytes_written, writer_after_write}
use Rattle.relay_core.proofs.destination.move_bytes.Given as goal

-- what is still to be moved completes the result
abbrev pub invariant-loop-left : goal.invariant-loop-left
invariant-loop-left l = record {
  up : l.writer.writer.up ≡ true;
  within : l.left ≤ left l.writer.writer;
  writer : writer_after_write l.left l.writer.writer ≡ writer_after_write l.fn.count l.fn.writer.writer;
  bytes : l.to.items ++ bytes_written l.left l.writer.writer ≡ l.fn.to.items ++ bytes_written l.fn.count l.fn.writer.writer;
  room : vec_len l.to + l.left ≤ vec_capacity l.to;
  limit : l.writer.limit ≡ l.fn.writer.limit;
}

abbrev pub decreases-loop-left : goal.decreases-loop-left
decreases-loop-left l = l.left
