-- What a destination's queues counted in several runs, one after the other.
use Rattle.std.specs.Prelude.{◌≡◌, ℕ, ◌+◌, ◌-◌, ◌^◌, ◌≤◌, ◌<◌, min}
use Rattle.dest_queue.specs.declared.counts.Counts.{Counts}
use Rattle.dest_queue.specs.declared.earlier_counts.EarlierCounts.{EarlierCounts}

-- a sum, as far as can be counted
abbrev pub sum : ℕ → ℕ → ℕ
sum a b = min (a + b) (2 ^ 64 - 1)

-- with one more run that has ended
abbrev pub after_run : Counts → EarlierCounts → EarlierCounts
after_run last earlier =
    record {
      offered = sum earlier.offered last.offered;
      kept = sum earlier.kept last.kept;
      dropped = sum earlier.dropped last.dropped;
    }

-- the counts of all runs, while this many datapoints of earlier ones wait
abbrev pub with_rest : (rest : ℕ) → Counts → EarlierCounts → Counts
with_rest rest counts earlier =
    record {
      offered = sum earlier.offered counts.offered;
      kept = sum earlier.kept counts.kept;
      dropped = sum earlier.dropped counts.dropped;
      taken = sum (earlier.kept - rest) counts.taken;
      queued = sum rest counts.queued;
      seals = counts.seals;
    }

-- what a queue has counted that has counted nothing
abbrev pub no_counts : Counts
no_counts = record { offered = 0; kept = 0; dropped = 0; taken = 0; queued = 0; seals = 0 }

-- a run that ends changes no count: what its queue held is part of the rest then
abbrev pub NoStepBackLaw : Type 0
NoStepBackLaw =
    (earlier : EarlierCounts) (last : Counts) (rest : ℕ)
    → rest ≤ earlier.kept → last.kept ≡ last.taken + last.queued
    → earlier.offered + last.offered < 2 ^ 64 → earlier.kept + last.kept < 2 ^ 64
    → earlier.dropped + last.dropped < 2 ^ 64
    → with_rest (rest + last.queued) no_counts (after_run last earlier)
    ≡ record (with_rest rest last earlier) { seals = 0 }
