-- What a destination counted in all runs.
use Rattle.std.specs.Prelude.{ℕ, ◌≡◌, ◌-◌}
use Rattle.dest_queue.specs.EarlierCounts.{sum, with_rest}
use Rattle.dest_queue.specs.declared.counts.Counts.{Counts}
use Rattle.dest_queue.specs.declared.earlier_counts.EarlierCounts.{EarlierCounts}

-- what was lost with a file is dropped, and no longer kept
abbrev pub without_lost : (lost : ℕ) → EarlierCounts → EarlierCounts
without_lost lost earlier =
    record earlier { kept = earlier.kept - lost; dropped = sum earlier.dropped lost }

-- of ended runs and of this one; of what is lost and what waits, atomic words, no clause can speak
pub record IsCountOfRuns (earlier : EarlierCounts) (counts result : Counts) : Type 0 where
  pub lost : ℕ
  pub rest : ℕ
  pub is : result ≡ with_rest rest counts (without_lost lost earlier)
