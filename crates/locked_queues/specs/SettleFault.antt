-- What a refused settling reports.
use Rattle.std.specs.Prelude.{ℕ, ◌≡◌, ◌≢◌, Bool, true, false, List, [], length}
use Rattle.dest_queue.specs.declared.counts.Counts.{Counts}
use Rattle.locked_queues.specs.declared.settled.SettleFault.{SettleFault}
use Rattle.locked_queues.specs.declared.settled.SettleFault.TheVariants as faults

-- a queue's history was sealed, or a record is short of a step
abbrev pub is_sealed : SettleFault → Bool
is_sealed faults.Strangers = false
is_sealed faults.NoMemory = false
is_sealed (faults.Totals dest) = false
is_sealed (faults.Sealed dest counts) = true
is_sealed (faults.Differs dest whose place) = false
is_sealed faults.NoOrder = false

-- the counts that it reports
abbrev pub sealed_counts : SettleFault → List Counts
sealed_counts faults.Strangers = []
sealed_counts faults.NoMemory = []
sealed_counts (faults.Totals dest) = []
sealed_counts (faults.Sealed dest counts) = counts.items
sealed_counts (faults.Differs dest whose place) = []
sealed_counts faults.NoOrder = []

-- a seal is reported with the counts of all queues of the set
abbrev pub HasAllCounts : ℕ → SettleFault → Type 0
HasAllCounts dests fault = is_sealed fault ≡ true → length (sealed_counts fault) ≡ dests

-- neither a seal nor records of strangers
pub record IsPlain (fault : SettleFault) : Type 0 where
  pub unsealed : is_sealed fault ≡ false
  pub counts : sealed_counts fault ≡ []
  pub known : fault ≢ faults.Strangers
