-- The list of a write loop's destinations: one is replaced, all are turned, or all are taken apart.
use Rattle.std.proofs.Common.{◌≡◌, ◌<◌, ◌≤◌, ◌+◌, ◌++◌, ◌∙◌, ◌⊎◌, inl, inr, ℕ, Bool, true, List, [], ◌∷◌, map, length, take, set, slice_get, get_or, replicate, Option, Some, refl, sym, ap, subst, arith, le_antisymm}
use Rattle.std.proofs.lemmas.List.{length-set, set-get_or, take-append-le, take_all, replicate_more, nil_from_length, append_assoc, append-nil}
use Rattle.std.proofs.lemmas.Option.{slice_get_past, get_or_from_slice_get}
use Rattle.std.proofs.lemmas.Bool.{cases_Bool}
use Rattle.line_text.specs.Datapoint.{Datapoint}
use Rattle.queue_records.specs.Takes.{TakesMade}
use Rattle.mio_loops.specs.WriterLog.{WriterLog}
use Rattle.mio_loops.specs.LeftWriter.{IsLeftOf, IsGivenEach}
use Rattle.mio_loops.specs.declared.left_writer.LeftWriter.{LeftWriter}
use Rattle.mio_loops.specs.OutgoingState.{OutgoingState}
use Rattle.mio_loops.specs.WriteTurn.{TurnAt}
use Rattle.mio_loops.specs.WriteLoop.{detached, is_up_at, IsLoopTurn}
use Rattle.mio_loops.proofs.LoopLemmas.{none-some}
use Rattle.mio_loops.proofs.TurnsLemmas.{up-here, up-set, ups-more}

-- ---- any lists

module _ {A : Type 0} where
  pub set-count : (xs now : List A) (i : ℕ) (y : A) → xs ≡ now → length (set xs i y) ≡ length now
  set-count xs now i y is = length-set xs i y ∙ ap length is

  -- an item is replaced by itself
  pub set-same : (xs now : List A) (i : ℕ) (r y : A) → xs ≡ now → r ≡ get_or xs i r → y ≡ r → set xs i y ≡ now
  set-same xs now i r y is read kept =
      ap (λ (x : A). set xs i x) (kept ∙ read) ∙ set-get_or xs i r ∙ is

  -- a place within one list is not past the end of the same list
  pub not-past : (xs now : List A) (i : ℕ) → xs ≡ now → i < length xs → length now ≤ i → ⊥
  not-past xs now i is within past =
      let same : length xs ≡ length now = ap length is in
      omega (arith, same, within, past)

  pub none-past : (now : List A) (i : ℕ) (x : A) → length now ≤ i → slice_get now i ≡ Some x → ⊥
  none-past now i x past found = none-some x (sym (slice_get_past now i past) ∙ found)

  -- the items that were lent, all of them
  pub refilled : (n : ℕ) (ys rest : List A) → n ≡ length ys → take n (ys ++ rest) ≡ ys
  refilled n ys rest all =
      take-append-le n ys rest (omega (arith, all)) ∙ take_all n ys (omega (arith, all))

  pub one-more_same : (xs ys : List A) (n : ℕ) (x y : A) → xs ≡ replicate n x → y ≡ x → ys ≡ xs ++ y ∷ [] → ys ≡ replicate (n + 1) x
  one-more_same xs ys n x y same is pushed =
      pushed ∙ ap (λ (l : List A). l ++ y ∷ []) same ∙ ap (λ (z : A). replicate n x ++ z ∷ []) is ∙ replicate_more n x

  pub count-same : (xs : List A) (n m : ℕ) (x : A) → xs ≡ replicate n x → n ≤ m → m ≤ n → xs ≡ replicate m x
  count-same xs n m x same least most = same ∙ ap (λ (k : ℕ). replicate k x) (le_antisymm least most)

-- ---- destinations

module _ {W : Type 0} where
  -- a write loop is sound after one of its destinations was replaced
  pub sound-set : (xs : List (OutgoingState W)) (logs : List WriterLog) (i room : ℕ) (y : OutgoingState W)
      → (length xs ≤ 64) × (logs ≡ []) × (length xs ≤ room) → (length (set xs i y) ≤ 64) × (logs ≡ []) × (length (set xs i y) ≤ room)
  sound-set xs logs i room y sound =
      let same = sym (length-set xs i y) in
      (subst (λ (n : ℕ). n ≤ 64) same sound.0, sound.1, subst (λ (n : ℕ). n ≤ room) same sound.2)

  pub sound-turned : (xs zs : List (OutgoingState W)) (logs : List WriterLog) (room : ℕ)
      → length zs ≡ length xs → (length xs ≤ 64) × (logs ≡ []) × (length xs ≤ room) → (length zs ≤ 64) × (logs ≡ []) × (length zs ≤ room)
  sound-turned xs zs logs room same sound =
      (subst (λ (n : ℕ). n ≤ 64) (sym same) sound.0, sound.1, subst (λ (n : ℕ). n ≤ room) (sym same) sound.2)

  pub up-now : (xs now : List (OutgoingState W)) (dest : ℕ) → xs ≡ now → is_up_at xs dest ≡ true → is_up_at now dest ≡ true
  up-now xs now dest is up = subst (λ (l : List (OutgoingState W)). is_up_at l dest ≡ true) is up

  -- the destination that was read has a connection
  pub up-read : (xs now : List (OutgoingState W)) (i : ℕ) (r : OutgoingState W) → xs ≡ now → i < length xs → r ≡ get_or xs i r → r.writer.up ≡ true → is_up_at now i ≡ true
  up-read xs now i r is within read up =
      up-now xs now i is (up-here xs i r within (ap (λ (o : OutgoingState W). o.writer.up) (sym read) ∙ up))

  -- a connection was attached
  pub ups-attached : (xs now : List (OutgoingState W)) (i other : ℕ) (y : OutgoingState W) → xs ≡ now → i < length xs → is_up_at (set xs i y) other ≡ true
      → (other ≡ i) ⊎ (is_up_at now other ≡ true)
  ups-attached xs now i other y is within up =
      elim (up-set xs i other y within up) [
        | inl w ↦ inl w.0
        | inr w ↦ inr (up-now xs now other is w)
      ]

  -- a connection was dropped
  detached-up : (o : OutgoingState W) → (detached o).writer.up ≡ true → o.writer.up ≡ true
  detached-up o up =
      elim (cases_Bool o.writer.up) [
        | inl is ↦ is
        | inr is ↦
            let same : detached o ≡ o = rw is refl in
            ap (λ (d : OutgoingState W). d.writer.up) (sym same) ∙ up
      ]

  pub ups-detached : (xs now : List (OutgoingState W)) (i : ℕ) (r y : OutgoingState W) → xs ≡ now → i < length xs → r ≡ get_or xs i r → y ≡ detached r
      → (other : ℕ) → is_up_at (set xs i y) other ≡ true → is_up_at now other ≡ true
  ups-detached xs now i r y is within read gone =
      ups-more now xs i r y within
      (λ up. ap (λ (o : OutgoingState W). o.writer.up) (sym read) ∙ detached-up r (ap (λ (o : OutgoingState W). o.writer.up) (sym gone) ∙ up))
      (λ dest up. up-now xs now dest is up)

  pub detached-there : (xs now : List (OutgoingState W)) (i : ℕ) (r y old : OutgoingState W) → xs ≡ now → r ≡ get_or xs i r → y ≡ detached r → slice_get now i ≡ Some old
      → set xs i y ≡ set now i (detached old)
  detached-there xs now i r y old is read gone found =
      let same : r ≡ old = read ∙ ap (λ (l : List (OutgoingState W)). get_or l i r) is ∙ get_or_from_slice_get now i old r found in
      ap (λ (l : List (OutgoingState W)). set l i y) is
      ∙ ap (λ (o : OutgoingState W). set now i o) (gone ∙ ap (λ (o : OutgoingState W). detached o) same)

  -- the lists of a turn under other names
  pub turn-as : (contents : W → Option (List ℕ)) (may_hand : TakesMade → ℕ → ℕ → List Datapoint → Type 0) (ready : ℕ → Bool) (turns : List (TurnAt W)) (olds news olds' news' : List (OutgoingState W)) (before after : TakesMade)
      → olds ≡ olds' → news' ≡ news → IsLoopTurn contents may_hand ready turns olds news before after → IsLoopTurn contents may_hand ready turns olds' news' before after
  turn-as contents may_hand ready turns olds news olds' news' before after is is' turn =
      record { old = turn.old ∙ is; new = turn.new ∙ sym is'; in_order = turn.in_order }

  -- ---- all destinations are taken apart

  pub log-moved : (log : OutgoingState W → WriterLog) (logs logs' all : List WriterLog) (d : OutgoingState W) (ds ds' : List (OutgoingState W)) (l : WriterLog)
      → logs ++ map log ds ≡ all → ds ≡ d ∷ ds' → l ≡ log d → logs' ≡ logs ++ l ∷ [] → logs' ++ map log ds' ≡ all
  log-moved log logs logs' all d ds ds' l so_far step is pushed =
      ap (λ (ls : List WriterLog). ls ++ map log ds') (pushed ∙ ap (λ (x : WriterLog). logs ++ x ∷ []) is)
      ∙ append_assoc logs (log d ∷ []) (map log ds')
      ∙ ap (λ (xs : List (OutgoingState W)). logs ++ map log xs) (sym step)
      ∙ so_far

  pub all-moved : (log : OutgoingState W → WriterLog) (logs : List WriterLog) (ds first : List (OutgoingState W))
      → logs ++ map log ds ≡ map log first → length ds ≡ 0 → logs ≡ map log first
  all-moved log logs ds first so_far none =
      sym (append-nil logs)
      ∙ ap (λ (xs : List (OutgoingState W)). logs ++ map log xs) (sym (nil_from_length ds none))
      ∙ so_far

module _ {W T : Type 0} (takes : T → ℕ → LeftWriter W → T → Type 0) where
  pub given-none : (dest : ℕ) (os : List (OutgoingState W)) (taker : T) → length os ≡ 0 → IsGivenEach takes dest os taker taker
  given-none dest os taker none =
      subst (λ (l : List (OutgoingState W)). IsGivenEach takes dest l taker taker) (sym (nil_from_length os none)) refl

  pub given-first : (dest next : ℕ) (o : OutgoingState W) (os rest : List (OutgoingState W)) (left : LeftWriter W) (before between after : T)
      → os ≡ o ∷ rest → next ≡ dest + 1 → IsLeftOf o left → takes before dest left between → IsGivenEach takes next rest between after
      → IsGivenEach takes dest os before after
  given-first dest next o os rest left before between after step is leaves took others =
      subst (λ (l : List (OutgoingState W)). IsGivenEach takes dest l before after) (sym step)
      (left, between, leaves, took, subst (λ (n : ℕ). IsGivenEach takes n rest between after) is others)
