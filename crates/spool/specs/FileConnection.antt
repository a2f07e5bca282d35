-- The connection that a file goes out on.
use Rattle.std.specs.Prelude.{Bool, Option}

pub record ConnectionState (W : Type 0) : Type 0 where
  -- what it writes to, if there is a connection, and whether that takes no more before it is ready
  pub sink : Option W
  pub blocked : Bool
