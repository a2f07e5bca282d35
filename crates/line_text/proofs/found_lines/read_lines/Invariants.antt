use Rattle.std.proofs.Common.{◌≡◌, ◌+◌, ◌<◌, ◌^◌, ◌++◌, length, take, take_while}
use Rattle.std.specs.List.{list_all}
use Rattle.line_text.specs.Line.{points, bad_count, count_of}
use Rattle.line_text.specs.Connection.{is_short}
use Rattle.line_text.specs.Split.{lines_at}
use Rattle.line_text.proofs.found_lines.read_lines.Given as goal

-- what was read, and what is read of the lines that are left, is what is read of all
abbrev pub invariant-loop-line : goal.invariant-loop-line
invariant-loop-line g l =
    let left = lines_at l.moment l.lines in
    let all = lines_at l.moment l.fn.lines in
    record {
      gained : l.out.items ++ points (take_while is_short left) ≡ l.fn.out.items ++ points (take_while is_short all);
      bad : count_of (l.bad_lines + bad_count (take_while is_short left)) ≡ count_of (bad_count (take_while is_short all));
      count : l.bad_lines < 2 ^ 64;
      goes_on : list_all is_short left ≡ list_all is_short all;
      kept : take (length l.fn.out.items) l.out.items ≡ l.fn.out.items;
    }

abbrev pub decreases-loop-line : goal.decreases-loop-line
decreases-loop-line g l = length l.lines
