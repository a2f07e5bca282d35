-- Connections that come and go are steps of their destinations.
use Rattle.std.proofs.Common.{◌≡◌, ◌≤◌, ℕ, zero, suc, Bool, true, false, List, [], ◌∷◌, length, Option, Some, None, Result, Ok, Err, slice_get, slice_set, refl, sym, ap, subst, arith, if◌then◌else◌}
use Rattle.std.specs.Prelude.{OnOk, OnErr}
use Rattle.dest_writer.specs.declared.counting.Counting.{Counting}
use Rattle.mio_loops.specs.OutgoingState.{OutgoingState}
use Rattle.mio_loops.specs.WriterSteps.{UpStep, DownStep}
use Rattle.mio_loops.specs.WriteLoop.{with_connection, without_connection, detached}
use Rattle.mio_loops.proofs.LoopLemmas.{none-some}
use Rattle.senders.specs.Steps.{ConnectionsProgress, DestProgress, DestsProgress}
use Rattle.senders.proofs.HandedLemmas.{steps_by}
use Rattle.senders.proofs.ProgressLemmas.{dest-none, went-none, went-one}

module _ {W : Type 0} where
  pub went-attach : {T E P : Type 0} (r : Result T E) (dest : ℕ) (os news : List (OutgoingState W)) → OnOk r P
      → (P → (held : Counting W) × (o : OutgoingState W) × (slice_get os dest ≡ Some o) × (o.writer.up ≡ false) × (news ≡ slice_set os dest (with_connection held o)))
      → OnErr r (news ≡ os)
      → ConnectionsProgress os news
  went-attach (Ok x) dest os news attached means unchanged =
      let a = means attached in (
        steps_by dest (UpStep ∷ []),
        (refl, tt),
        λ made. subst (λ (ns : List (OutgoingState W)). DestsProgress (steps_by dest (UpStep ∷ [])) os ns made made) (sym a.4)
            (went-one dest (UpStep ∷ []) os a.1 (with_connection a.0 a.1) made made a.2
            (record { allowed = (a.3, tt); writer = refl; log = refl; limit = refl; limits = tt }) refl),
      )
  went-attach (Err e) dest os news attached means unchanged = (
    [],
    tt,
    λ made. subst (λ (ns : List (OutgoingState W)). DestsProgress [] os ns made made) (sym unchanged) (went-none os made),
  )

  none-past : (os : List (OutgoingState W)) (i : ℕ) → slice_get os i ≡ None → length os ≤ i
  none-past [] i none = omega arith
  none-past (o ∷ os) zero none = absurd (none-some o (sym none))
  none-past (o ∷ os) (suc i) none = (let l = none-past os i none in omega (arith, l))

  detach-by : (dest : ℕ) (os news : List (OutgoingState W)) (o : OutgoingState W) (up : Bool) → o.writer.up ≡ up → slice_get os dest ≡ Some o
      → news ≡ slice_set os dest (detached o)
      → ConnectionsProgress os news
  detach-by dest os news o true up at is = (
    steps_by dest (DownStep ∷ []),
    (refl, tt),
    λ made. subst (λ (ns : List (OutgoingState W)). DestsProgress (steps_by dest (DownStep ∷ [])) os ns made made) (sym is)
        (went-one dest (DownStep ∷ []) os o (detached o) made made at
        (subst (DestProgress (DownStep ∷ []) o) (sym (ap (λ (b : Bool). if b then without_connection o else o) up))
        (record { allowed = (up, tt); writer = refl; log = refl; limit = refl; limits = tt })) refl),
  )
  detach-by dest os news o false up at is = (
    [],
    tt,
    λ made. subst (λ (ns : List (OutgoingState W)). DestsProgress [] os ns made made) (sym is)
        (went-one dest [] os o (detached o) made made at (subst (DestProgress [] o) (sym (ap (λ (b : Bool). if b then without_connection o else o) up)) (dest-none o)) refl),
  )

  pub went-detach : (dest : ℕ) (os news : List (OutgoingState W)) (x : Option (OutgoingState W)) → slice_get os dest ≡ x
      → ((o : OutgoingState W) → slice_get os dest ≡ Some o → news ≡ slice_set os dest (detached o))
      → (length os ≤ dest → news ≡ os)
      → ConnectionsProgress os news
  went-detach dest os news None at here past = (
    [],
    tt,
    λ made. subst (λ (ns : List (OutgoingState W)). DestsProgress [] os ns made made) (sym (past (none-past os dest at))) (went-none os made),
  )
  went-detach dest os news (Some o) at here past = detach-by dest os news o _ refl at (here o at)
