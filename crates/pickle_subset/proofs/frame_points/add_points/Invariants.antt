use Rattle.std.proofs.Common.{◌≡◌, ◌+◌, ◌≤◌, ◌++◌, length, take, drop}
use Rattle.pickle_subset.specs.Accepted.{row_points, bad_row_count}
use Rattle.pickle_subset.specs.Views.{rows}
use Rattle.pickle_subset.proofs.frame_points.add_points.Given as goal

-- what was read, and what is read of what is left, is what is read of all
abbrev pub invariant-loop-row : goal.invariant-loop-row
invariant-loop-row l =
    let left = drop l.row-index l.found in
    record {
      gained : l.out.items ++ row_points l.moment (rows left) ≡ l.fn.out.items ++ row_points l.moment (rows l.found);
      bad : l.bad + bad_row_count l.moment (rows left) ≡ bad_row_count l.moment (rows l.found);
      count : l.bad ≤ l.row-index;
      kept : take (length l.fn.out.items) l.out.items ≡ l.fn.out.items;
    }
