-- What is noted over all runs of a process, before the first one.
use Rattle.dest_queue.specs.declared.earlier_counts.EarlierCounts.{EarlierCounts}

-- no run has ended
abbrev pub nothing_counted : EarlierCounts
nothing_counted = record { offered = 0; kept = 0; dropped = 0 }
