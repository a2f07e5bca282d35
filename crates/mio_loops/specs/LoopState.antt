-- The connections of one loop.
use Rattle.std.specs.Prelude.{◌≡◌, ◌⊎◌, ℕ, ◌+◌, ◌<◌, ◌≤◌, ◌&&◌, not, Bool, true, false, nat_lt, List, [], Option, Some, None, slice_index_or, is_some}
use Rattle.std.specs.List.{list_any}
use Rattle.slab.specs.Slab.{Slab, get, slab_len}
use Rattle.dest_writer.specs.Counting.{counts_of}
use Rattle.dest_writer.specs.declared.counting.Counting.{Counting}
use Rattle.dest_writer.specs.declared.counting.Outcome.{Outcome}
use Rattle.dest_writer.specs.declared.counting.Outcome.TheVariants.{Moved, WouldBlock, Interrupted, Failed}
use Rattle.reader_core.specs.Configuration.{Dispatch}
use Rattle.reader_core.specs.Reader.{ReaderModel}
use Rattle.mio_loops.specs.InputLog.{LogState}

pub record LoopState (S : Type 0) : Type 0 where
  -- the number of the reader whose token is 0
  pub first : ℕ
  -- the connections, by their tokens
  pub sources : Slab (Counting S)
  -- the readers, by their tokens
  pub readers : List ReaderModel
  -- which tokens are in the again list
  pub again : List Bool
  -- what the readers were fed
  pub log : LogState

-- a loop holds no more connections
abbrev pub most_connections : ℕ
most_connections = 1024

-- a reader is none of the loop whose first one has this number
abbrev pub IsBeyond : ℕ → ℕ → Type 0
IsBeyond first reader = (reader < first) ⊎ (first + most_connections ≤ reader)

abbrev pub would_block : Outcome → Bool
would_block WouldBlock = true
would_block Moved = false
would_block Interrupted = false
would_block Failed = false

-- the offers of a reader that wait
abbrev pub waiting_in : Option ReaderModel → List Dispatch
waiting_in None = []
waiting_in (Some reader) = reader.waiting

module _ {S : Type 0} where
  -- the connection of a token is held
  abbrev pub is_held : LoopState S → ℕ → Bool
  is_held loop token = is_some (get loop.sources token)

  -- the token is in the again list
  abbrev pub is_listed : LoopState S → ℕ → Bool
  is_listed loop token = slice_index_or loop.again token false

  -- some token does
  abbrev pub has_listed : LoopState S → Bool
  has_listed loop = list_any (λ listed. listed) loop.again

  -- no further connection is taken: 1,024 are held, or the table's next key is none of the tokens
  abbrev pub is_full : LoopState S → Bool
  is_full loop =
      not (nat_lt (slab_len loop.sources) most_connections
      && nat_lt loop.sources.vacant_key most_connections)

  -- each held connection whose last read did not answer that it would have to wait is in the again list
  abbrev pub NoneForgotten : LoopState S → Type 0
  NoneForgotten loop =
      (token : ℕ) (source : Counting S) → get loop.sources token ≡ Some source
      → would_block (counts_of source).last ≡ false → is_listed loop token ≡ true
