-- How readers read: which datapoints they find in what they are fed, and when they read no more.
use Rattle.std.specs.Prelude.{◌≡◌, Bool, true, List, [], ◌++◌, flat_map}
use Rattle.line_text.specs.Datapoint.{Datapoint}
use Rattle.reader_core.specs.Input.{Stream, has_connections}
use Rattle.reader_core.specs.declared.kind.ReaderKind.{ReaderKind}

-- how each kind of reader reads a connection, or a datagram
pub record Reading : Type 0 where
  -- the datapoints that it gives
  pub points : ReaderKind → Stream → List Datapoint
  -- whether a reader reads no more of it
  pub closes : ReaderKind → Stream → Bool

-- the accepted datapoints of a whole input, in order
abbrev pub accepted_of : Reading → ReaderKind → List Stream → List Datapoint
accepted_of reading kind input = flat_map (reading.points kind) input

-- a connection gives nothing before its first byte, and more bytes only add datapoints behind the
-- others
pub record IsOrderly (reading : Reading) : Type 0 where
  pub nothing : (kind : ReaderKind) → has_connections kind ≡ true → reading.points kind [] ≡ []
  pub grows :
      (kind : ReaderKind) → has_connections kind ≡ true → (bytes more : Stream)
      → (gained : List Datapoint)
      × (reading.points kind (bytes ++ more) ≡ reading.points kind bytes ++ gained)
