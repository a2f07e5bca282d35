-- What a receiver gives up once it was stopped.
use Rattle.std.specs.Prelude.{ℕ, ◌≡◌, List, Option, Some, None, zero, suc, slice_get}
use Rattle.slab.specs.Slab.{get}
use Rattle.dest_writer.specs.Counting.{stream_of}
use Rattle.dest_writer.specs.declared.counting.Counting.{Counting}
use Rattle.reader_core.specs.Reader.{ReaderModel}
use Rattle.reader_core.specs.Scan.{rest_of}
use Rattle.mio_loops.specs.LoopState.{LoopState}

module _ {S T : Type 0} (takes : T → ℕ → S → List ℕ → T → Type 0) where
  -- a connection is given up, if there is one, behind the rest of its reader's bytes
  abbrev pub IsHandedBehind : List ReaderModel → ℕ → Option (Counting S) → T → T → Type 0
  IsHandedBehind readers token None before after = after ≡ before
  IsHandedBehind readers token (Some held) before after =
      (rest : List ℕ)
      × ((reader : ReaderModel) → slice_get readers token ≡ Some reader → rest ≡ rest_of reader.scan)
      × takes before token (stream_of held) rest after

  -- the connection of a token
  abbrev pub IsHanded : LoopState S → ℕ → T → T → Type 0
  IsHanded loop token before after =
      IsHandedBehind loop.readers token (get loop.sources token) before after

  -- those of the tokens below a number, one after another, and nothing else
  unfoldable pub IsHandedEach : LoopState S → ℕ → T → T → Type 0
  IsHandedEach loop zero before after = after ≡ before
  IsHandedEach loop (suc token) before after =
      (between : T) × IsHandedEach loop token before between × IsHanded loop token between after
