-- What remains to be sent to a destination.
use Rattle.std.specs.Prelude.{ℕ, ◌≡◌, ◌⊎◌, ◌-◌, ◌+◌, min}
use Rattle.dest_queue.specs.Offer.{last_count}
use Rattle.dest_queue.specs.declared.counts.Counts.{Counts}
use Rattle.locked_queues.specs.LockFact.{IsLockFact}

-- of what a queue kept, what its connections did not take to the last byte
abbrev pub left_of : (kept taken : ℕ) → ℕ
left_of kept taken = kept - taken

-- that of some queue of this size, with a count that was read of its connections; or what is queued, if there is none to
-- read
pub record IsLeftOf (size left : ℕ) : Type 0 where
  pub place : ℕ
  pub counts : Counts
  pub fact : IsLockFact size place counts
  pub is : (left ≡ counts.queued) ⊎ ((taken : ℕ) × (left ≡ left_of counts.kept taken))

-- that of this run and of the ended ones, at most the greatest count; of theirs, an atomic word, no clause can speak
pub record IsLeftInAll (size left : ℕ) : Type 0 where
  pub of_run : ℕ
  pub run : IsLeftOf size of_run
  pub rest : ℕ
  pub all : left ≡ min last_count (rest + of_run)
