-- What a loop leaves of its destinations, and who is given that.
use Rattle.std.specs.Prelude.{ℕ, ◌≡◌, ◌+◌, List, [], ◌∷◌, None, Some, MatchOption}
use Rattle.dest_writer.specs.Counting.{stream_of}
use Rattle.dest_writer.specs.declared.counting.Counting.{Counting}
use Rattle.mio_loops.specs.declared.left_writer.LeftWriter.{LeftWriter}
use Rattle.mio_loops.specs.OutgoingState.{OutgoingState}

-- a destination leaves its writer, with the batch in hand, and its connection, if it has one
pub record IsLeftOf {W : Type 0} (o : OutgoingState W) (left : LeftWriter W) : Type 0 where
  pub limit : left.batch.limit ≡ o.limit
  pub writer : left.batch.writer.writer ≡ o.writer
  pub sink : MatchOption left.sink (o.sink ≡ None)
      (λ sink. (held : Counting W) × (o.sink ≡ Some held) × (stream_of held ≡ sink))

module _ {W T : Type 0} (takes : T → ℕ → LeftWriter W → T → Type 0) where
  -- the taker is given what each of these destinations leaves, from this one on, in their order, and nothing else
  abbrev pub IsGivenEach : ℕ → List (OutgoingState W) → T → T → Type 0
  IsGivenEach dest [] before after = after ≡ before
  IsGivenEach dest (o ∷ os) before after =
      (left : LeftWriter W) × (between : T) × IsLeftOf o left × takes before dest left between
      × IsGivenEach (dest + 1) os between after
