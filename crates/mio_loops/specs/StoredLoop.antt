-- What holds of the fields of a `ReadLoop`.
use Rattle.std.specs.Prelude.{◌≡◌, ℕ, ◌<◌, ◌≤◌, Bool, true, false, List, [], length, Some, slice_get}
use Rattle.slab.specs.Slab.{Slab}
use Rattle.dest_writer.specs.declared.counting.Counting.{Counting}
use Rattle.router.specs.Plan.{Plan}
use Rattle.reader_core.specs.Input.{fresh_input}
use Rattle.reader_core.specs.Reader.{ReaderModel, Represents, is_closed}
use Rattle.reader_core.specs.declared.kind.ReaderKind.{ReaderKind}
use Rattle.mio_loops.specs.InputLog.{LogState}
use Rattle.mio_loops.specs.LoopState.{LoopState, most_connections, is_held, NoneForgotten}
use Rattle.mio_loops.specs.Serving.{most_read}

abbrev pub AllOpen : List ReaderModel → Type 0
AllOpen readers =
    (token : ℕ) (reader : ReaderModel) → slice_get readers token ≡ Some reader
    → is_closed reader ≡ false

pub record IsSoundLoop {S : Type 0} (loop : LoopState S) (buffer : ℕ) : Type 0 where
  pub readers : length loop.readers ≡ most_connections
  pub flags : length loop.again ≡ most_connections
  -- the buffer has the bytes of one read
  pub one_read : buffer ≡ most_read
  pub first : loop.first ≤ 7168
  -- there is room for all connections
  pub room : most_connections ≤ loop.sources.capacity
  pub tokens : (token : ℕ) → is_held loop token ≡ true → token < most_connections
  -- no reader is closed
  pub all_open : AllOpen loop.readers
  pub none_forgotten : NoneForgotten loop

module _ {S : Type 0} where
  abbrev pub loop_of : ℕ → Slab (Counting S) → List ReaderModel → List Bool → LogState → LoopState S
  loop_of first sources readers again log =
      record { first = first; sources = sources; readers = readers; again = again; log = log }

-- the reader of a kind is open, and nothing was fed to it
pub record IsFresh (kind : ReaderKind) (reader : ReaderModel) : Type 0 where
  pub represents : (plan : Plan) → Represents reader kind plan (fresh_input kind) []
  pub begins : is_closed reader ≡ false

abbrev pub AllFresh : ReaderKind → List ReaderModel → Type 0
AllFresh kind readers =
    (token : ℕ) (reader : ReaderModel) → slice_get readers token ≡ Some reader → IsFresh kind reader
