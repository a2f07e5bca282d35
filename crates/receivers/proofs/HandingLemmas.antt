-- The connections that a receiver gives up, one after another.
use Rattle.std.proofs.Common.{◌≡◌, ◌+◌, ℕ, List, Option, refl, suc, subst, arith}
use Rattle.slab.specs.Slab.{get}
use Rattle.dest_writer.specs.declared.counting.Counting.{Counting}
use Rattle.reader_core.specs.Reader.{ReaderModel}
use Rattle.mio_loops.specs.LoopState.{LoopState}
use Rattle.receivers.specs.Handing.{IsHandedBehind, IsHanded, IsHandedEach}

module _ {S T : Type 0} (takes : T → ℕ → S → List ℕ → T → Type 0) where
  pub none-handed : (loop : LoopState S) (taker : T) → IsHandedEach takes loop 0 taker taker
  unfolding IsHandedEach
  none-handed loop taker = refl

  one-more : (loop : LoopState S) (token : ℕ) (before between after : T)
      → IsHandedEach takes loop token before between → IsHanded takes loop token between after → IsHandedEach takes loop (suc token) before after
  unfolding IsHandedEach
  one-more loop token before between after so_far one = (between, so_far, one)

  -- the loop's connection of this token is still there, and its readers are as they were
  pub one-more_handed : (loop now : LoopState S) (token next : ℕ) (before between after : T)
      → next ≡ token + 1 → get now.sources token ≡ get loop.sources token → now.readers ≡ loop.readers
      → IsHandedEach takes loop token before between → IsHanded takes now token between after → IsHandedEach takes loop next before after
  one-more_handed loop now token next before between after is there readers so_far one =
      let one' = subst (λ (source : Option (Counting S)). IsHandedBehind takes now.readers token source between after) there one in
      let one'' = subst (λ (rs : List ReaderModel). IsHandedBehind takes rs token (get loop.sources token) between after) readers one' in
      let more = one-more loop token before between after so_far one'' in
      let same : suc token ≡ next = omega (arith, is) in
      subst (λ (n : ℕ). IsHandedEach takes loop n before after) same more
