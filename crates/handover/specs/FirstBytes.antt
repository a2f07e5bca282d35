-- What clauses see of a stream with bytes before it.
use Rattle.std.specs.Prelude.{ℕ, List}

pub record BytesBefore (S : Type 0) : Type 0 where
  -- the bytes that come first and were not read yet
  pub bytes : List ℕ
  -- the stream behind them
  pub stream : S
