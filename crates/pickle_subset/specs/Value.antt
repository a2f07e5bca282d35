-- The values that a pickle makes, apart from where they are in memory.
use Rattle.std.specs.Prelude.{ℕ, ℤ, List}

pub data Scalar : Type 0 where
  Text : (text : List ℕ) → Scalar
  Whole : (number : ℤ) → Scalar
  -- the 64 bits of a binary64
  Binary : (bits : ℕ) → Scalar
  Other : Scalar

-- a time and a value
pub record Pair : Type 0 where
  pub time : Scalar
  pub value : Scalar

pub record Row : Type 0 where
  pub path : List ℕ
  pub time : Scalar
  pub value : Scalar

-- what is on the stack
pub data Item : Type 0 where
  Marked : Item
  Rows : Item
  One : (scalar : Scalar) → Item
  Two : (pair : Pair) → Item
  Three : (row : Row) → Item
