-- What clauses see of the calls that were counted.
use Rattle.std.specs.Prelude.{ℕ, ◌-◌, ◌^◌}
use Rattle.dest_writer.specs.declared.counting.Outcome.{Outcome}

-- the greatest count
abbrev pub greatest_count : ℕ
greatest_count = 2 ^ 64 - 1

pub record CountedCalls : Type 0 where
  -- how many calls were made, and how many of them failed
  pub calls : ℕ
  pub failures : ℕ
  -- how the last one ended
  pub last : Outcome
