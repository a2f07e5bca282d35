use Rattle.std.proofs.Common.{◌≡◌, ◌++◌, List, reverse, vec_len}
use Rattle.std.specs.Io.KnownBytes.{Appends}
use Rattle.line_text.specs.Datapoint.{Datapoint}
use Rattle.line_text.specs.Print.{printed_lines}
use Rattle.pass_lines.proofs.point_writer.PointWriter.write_all.Given as goal

-- the datapoints that were written, and those that are left in reverse, are all
abbrev pub invariant-loop-point : goal.invariant-loop-point
invariant-loop-point g l =
    (passed : List Datapoint) × (l.fn.points.items ≡ passed ++ reverse l.points.items) × Appends (g.W.Write.contents l.fn.output) (g.W.Write.contents l.output) (printed_lines passed)

abbrev pub decreases-loop-point : goal.decreases-loop-point
decreases-loop-point g l = vec_len l.points
