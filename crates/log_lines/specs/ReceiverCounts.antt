-- What a receiver has counted, and how it is noted.
use Rattle.std.specs.Prelude.{ℕ, ◌+◌, List, [], ◌∷◌}
use Rattle.reader_counts.specs.Counts.{no_totals, totals_after, counted}
use Rattle.log_lines.specs.declared.receiver_counts.ReceiverCounts.{ReceiverCounts}

abbrev pub no_counts : ReceiverCounts
no_counts = record { readers = no_totals; emptied = 0; connections = 0; refused = 0 }

-- the counts in the row in which they are noted
abbrev pub numbers_of : ReceiverCounts → List ℕ
numbers_of c =
    c.readers.datapoints ∷ c.readers.faults.bad_lines ∷ c.readers.faults.bad_pickles
    ∷ c.readers.faults.bad_rows ∷ c.readers.faults.bad_names ∷ c.emptied ∷ c.connections ∷ c.refused ∷ []

-- the counts of a run behind those of runs that have ended
abbrev pub counts_behind : (earlier now : ReceiverCounts) → ReceiverCounts
counts_behind earlier now = record {
  readers = totals_after earlier.readers now.readers;
  emptied = counted (earlier.emptied + now.emptied);
  connections = now.connections;
  refused = counted (earlier.refused + now.refused);
}
