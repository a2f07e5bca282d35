-- What readers have counted.
use Rattle.std.specs.Prelude.{ℕ, ◌+◌, ◌-◌, ◌^◌, min, List, sum_by}
use Rattle.reader_counts.specs.declared.counts.ReaderCounts.{ReaderCounts}
use Rattle.reader_counts.specs.declared.totals.ReaderTotals.{ReaderTotals}

-- a count stays at the greatest number once it reaches it
abbrev pub counted : ℕ → ℕ
counted n = min n (2 ^ 64 - 1)

abbrev pub no_counts : ReaderCounts
no_counts = record { bad_lines = 0; bad_pickles = 0; bad_rows = 0; bad_names = 0 }

-- these counts and more
abbrev pub counts_after : ReaderCounts → ReaderCounts → ReaderCounts
counts_after counts more =
    record {
      bad_lines = counted (counts.bad_lines + more.bad_lines);
      bad_pickles = counted (counts.bad_pickles + more.bad_pickles);
      bad_rows = counted (counts.bad_rows + more.bad_rows);
      bad_names = counted (counts.bad_names + more.bad_names);
    }

abbrev pub no_totals : ReaderTotals
no_totals = record { datapoints = 0; faults = no_counts }

-- these totals and more
abbrev pub totals_after : ReaderTotals → ReaderTotals → ReaderTotals
totals_after totals more =
    record {
      datapoints = counted (totals.datapoints + more.datapoints);
      faults = counts_after totals.faults more.faults;
    }

-- what several readers counted together: the sum of each count
abbrev pub totals_of : List ReaderTotals → ReaderTotals
totals_of all =
    record {
      datapoints = counted (sum_by (λ t. t.datapoints) all);
      faults = record {
        bad_lines = counted (sum_by (λ t. t.faults.bad_lines) all);
        bad_pickles = counted (sum_by (λ t. t.faults.bad_pickles) all);
        bad_rows = counted (sum_by (λ t. t.faults.bad_rows) all);
        bad_names = counted (sum_by (λ t. t.faults.bad_names) all);
      };
    }
