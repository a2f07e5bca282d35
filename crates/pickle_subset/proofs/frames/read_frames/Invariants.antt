use Rattle.std.proofs.Common.{◌≡◌, ◌+◌, ◌<◌, ◌^◌, ◌++◌, length, take}
use Rattle.line_text.specs.Line.{count_of}
use Rattle.line_text.specs.Connection.{arrivals}
use Rattle.pickle_subset.specs.Frame.{reception}
use Rattle.pickle_subset.specs.Accepted.{points, bad_pickle_count, bad_rows_count}
use Rattle.pickle_subset.proofs.frames.read_frames.Given as goal

-- what was read, and what is read of what is left, is what is read of all
abbrev pub invariant-loop-end : goal.invariant-loop-end
invariant-loop-end g l =
    let left = reception (arrivals l.left l.moment) in
    let all = reception (arrivals l.piece l.moment) in
    record {
      gained : l.out.items ++ points left.frames ≡ l.fn.out.items ++ points all.frames;
      bad_pickles : count_of (l.bad_pickles + bad_pickle_count left.frames) ≡ count_of (bad_pickle_count all.frames);
      pickles_fit : l.bad_pickles < 2 ^ 64;
      bad_rows : count_of (l.bad_rows + bad_rows_count left.frames) ≡ count_of (bad_rows_count all.frames);
      rows_fit : l.bad_rows < 2 ^ 64;
      closed : left.closed ≡ all.closed;
      partial : left.partial ≡ all.partial;
      kept : take (length l.fn.out.items) l.out.items ≡ l.fn.out.items;
    }

abbrev pub decreases-loop-end : goal.decreases-loop-end
decreases-loop-end g l = length l.left
