use Rattle.std.proofs.Common.{◌≡◌, ◌≤◌, ◌+◌, length}
use Rattle.dest_writer.specs.Place.{line_at, length_of_first}
use Rattle.dest_writer.proofs.place.place_behind.Given as goal

-- so many lines are passed, and so many bytes are left
abbrev pub invariant-loop-point : goal.invariant-loop-point
invariant-loop-point l = record {
  index : l.index ≡ l.point-index;
  passed : length_of_first l.point-index l.points + l.before + l.left ≡ l.fn.offset + l.fn.count;
  before : l.before ≤ length (line_at l.point-index l.points);
}
