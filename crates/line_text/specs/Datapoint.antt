-- A datapoint, apart from where it is in memory.
use Rattle.std.specs.Prelude.{ℕ, ℤ, List}

pub record Datapoint : Type 0 where
  -- the metric's name
  pub name : List ℕ
  -- in units; 10,000,000,000 units are 1
  pub value : ℤ
  -- in seconds
  pub time : ℕ
