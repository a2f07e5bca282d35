-- What of a reader's input was bad.
use Rattle.std.specs.Prelude.{ℕ, ◌-◌}
use Rattle.reader_counts.specs.declared.counts.ReaderCounts.{ReaderCounts}
use Rattle.reader_counts.specs.declared.totals.ReaderTotals.{ReaderTotals}
use Rattle.receivers.specs.declared.input_counts.ServedInput.{ServedInput}

-- what was wrong beside so many names that rewriting emptied: these are dropped on purpose
abbrev pub faults_beside : ReaderCounts → ℕ → ReaderCounts
faults_beside faults emptied = record faults { bad_names = faults.bad_names - emptied }

abbrev pub without_emptied : ReaderTotals → ℕ → ReaderTotals
without_emptied totals emptied = record totals { faults = faults_beside totals.faults emptied }

-- what a reader counted of what it was fed in between, while rewriting emptied so many names
abbrev pub served_between : (before now : ReaderTotals) → (emptied : ℕ) → ServedInput
served_between before now emptied =
    record {
      datapoints = now.datapoints - before.datapoints;
      bad_lines = now.faults.bad_lines - before.faults.bad_lines;
      bad_pickles = now.faults.bad_pickles - before.faults.bad_pickles;
      bad_rows = now.faults.bad_rows - before.faults.bad_rows;
      bad_names = now.faults.bad_names - emptied - before.faults.bad_names;
    }
