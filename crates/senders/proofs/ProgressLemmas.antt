-- How destinations go by steps.
use Rattle.std.proofs.Common.{◌≡◌, ◌≢◌, ◌<◌, ◌≤◌, ◌+◌, inl, inr, ◌==◌, if◌then◌else◌, ℕ, zero, suc, Bool, true, false, List, [], ◌∷◌, ◌++◌, length, map, Option, Some, None, slice_get, slice_set, refl, sym, ap, subst, ◌∙◌, arith, zero-add}
use Rattle.std.proofs.lemmas.Bool.{cases_eq, ne_eqb, eq-eqb}
use Rattle.std.proofs.lemmas.List.{length-set, length-map}
use Rattle.std.proofs.lemmas.Option.{slice_get_within}
use Rattle.dest_writer.specs.declared.counting.Counting.{Counting}
use Rattle.dest_writer.specs.declared.driven.Driven.{Driven}
use Rattle.line_text.specs.Datapoint.{Datapoint}
use Rattle.queue_records.specs.Takes.{TakesMade}
use Rattle.mio_loops.specs.OutgoingState.{OutgoingState}
use Rattle.mio_loops.specs.WriterSteps.{WriterStep, UpStep, TakeStep, WroteStep, DownStep, AreAllowed, writer_after_steps, log_after_steps, record_after_step, record_after_steps}
use Rattle.mio_loops.specs.WriteServe.{Moved, steps_of_batch, steps_of_write, steps_of_end, steps_of_turn, is_failed}
use Rattle.mio_loops.specs.WriteTurn.{TurnAt, IsTurn, AreTurns, WasServed, connection_due}
use Rattle.mio_loops.specs.WriteLoop.{IsLoopTurn}
use Rattle.mio_loops.proofs.StepsLemmas.{after-append, allowed-append, log-append}
use Rattle.mio_loops.proofs.LoopLemmas.{get-set-here, get-set-there, same, none-some}
use Rattle.senders.specs.Steps.{DestStep, steps_at, record_after_all, HaveLimit, DestProgress, DestsProgress, AreHanded, SomeProgress, ConnectionsProgress}
use Rattle.senders.proofs.HandedLemmas.{steps_by, handed-then, none-handed, no_takes-then, turn-handed, handed-as}

-- ---- the steps of one destination among those of all

pub steps_at-then : (n : ℕ) (xs ys : List DestStep) → steps_at n (xs ++ ys) ≡ steps_at n xs ++ steps_at n ys
steps_at-then n [] ys = refl
steps_at-then n (x ∷ xs) ys =
    elim (x.dest == n) as (λ b. (if b then x.step ∷ steps_at n (xs ++ ys) else steps_at n (xs ++ ys)) ≡ (if b then x.step ∷ steps_at n xs else steps_at n xs) ++ steps_at n ys) [
      | true ↦ ap (λ (r : List WriterStep). x.step ∷ r) (steps_at-then n xs ys)
      | false ↦ steps_at-then n xs ys
    ]

pub steps-own : (n : ℕ) (ss : List WriterStep) → steps_at n (steps_by n ss) ≡ ss
steps-own n [] = refl
steps-own n (s ∷ ss) = rw (eq-eqb n n refl) (ap (λ (r : List WriterStep). s ∷ r) (steps-own n ss))

pub steps-other : (n m : ℕ) (ss : List WriterStep) → m ≢ n → steps_at n (steps_by m ss) ≡ []
steps-other n m [] differs = refl
steps-other n m (s ∷ ss) differs = rw (ne_eqb m n differs) (steps-other n m ss differs)

-- ---- the record

pub record-then : (xs ys : List DestStep) (made : TakesMade) → record_after_all (xs ++ ys) made ≡ record_after_all ys (record_after_all xs made)
record-then [] ys made = refl
record-then (x ∷ xs) ys made = record-then xs ys (record_after_step x.dest x.step made)

pub record-own : (dest : ℕ) (ss : List WriterStep) (made : TakesMade) → record_after_all (steps_by dest ss) made ≡ record_after_steps dest ss made
record-own dest [] made = refl
record-own dest (s ∷ ss) made = record-own dest ss (record_after_step dest s made)

-- ---- limits

pub limits-then : (limit : ℕ) (xs ys : List WriterStep) → HaveLimit limit xs → HaveLimit limit ys → HaveLimit limit (xs ++ ys)
limits-then limit [] ys first second = second
limits-then limit (UpStep ∷ xs) ys first second = limits-then limit xs ys first second
limits-then limit (TakeStep own batch ∷ xs) ys first second = (first.0, limits-then limit xs ys first.1 second)
limits-then limit (WroteStep count ∷ xs) ys first second = limits-then limit xs ys first second
limits-then limit (DownStep ∷ xs) ys first second = limits-then limit xs ys first second

batch-limits : (limit : ℕ) (batch : List Datapoint) → HaveLimit limit (steps_of_batch limit batch)
batch-limits limit [] = tt
batch-limits limit (point ∷ points) = (refl, tt)

write-limits : (limit count : ℕ) → HaveLimit limit (steps_of_write count)
write-limits limit count =
    elim (count == 0) as (λ b. HaveLimit limit (if b then [] else WroteStep count ∷ [])) [ true ↦ tt | false ↦ tt ]

end-limits : (limit : ℕ) (driven : Driven) → HaveLimit limit (steps_of_end driven)
end-limits limit driven =
    elim (is_failed driven) as (λ b. HaveLimit limit (if b then DownStep ∷ [] else [])) [ true ↦ tt | false ↦ tt ]

turn-limits : (limit : ℕ) (moved : Moved) (driven : Driven) → HaveLimit limit (steps_of_turn limit moved driven)
turn-limits limit moved driven =
    limits-then limit (steps_of_batch limit moved.batch) _ (batch-limits limit moved.batch)
    (limits-then limit (steps_of_write moved.count) _ (write-limits limit moved.count) (end-limits limit driven))

-- ---- one destination

module _ {W : Type 0} where
  pub dest-none : (o : OutgoingState W) → DestProgress [] o o
  dest-none o = record { allowed = tt; writer = refl; log = refl; limit = refl; limits = tt }

  pub dest-then : (a b : List WriterStep) (x y z : OutgoingState W) → DestProgress a x y → DestProgress b y z → DestProgress (a ++ b) x z
  dest-then a b x y z first second =
      record {
        allowed = allowed-append a b x.writer first.allowed (subst (AreAllowed b) first.writer second.allowed);
        writer = second.writer ∙ ap (writer_after_steps b) first.writer ∙ sym (after-append a b x.writer);
        log = second.log ∙ ap (log_after_steps b) first.log ∙ sym (log-append a b x.log);
        limit = second.limit ∙ first.limit;
        limits = limits-then x.limit a b first.limits (subst (λ (n : ℕ). HaveLimit n b) first.limit second.limits);
      }

  -- ---- all destinations

  pub went-none : (os : List (OutgoingState W)) (made : TakesMade) → DestsProgress [] os os made made
  went-none os made =
      record {
        dests = refl;
        each = λ dest old at. (old, at, dest-none old);
        others = λ dest past. refl;
        made = refl;
      }

  pub went-then : (a b : List DestStep) (x y z : List (OutgoingState W)) (p q r : TakesMade) → DestsProgress a x y p q → DestsProgress b y z q r → DestsProgress (a ++ b) x z p r
  went-then a b x y z p q r first second =
      record {
        dests = second.dests ∙ first.dests;
        each = λ dest old at.
            let one = first.each dest old at in
            let two = second.each dest one.0 one.1 in
            (two.0, two.1, subst (λ (ss : List WriterStep). DestProgress ss old two.0) (sym (steps_at-then dest a b)) (dest-then _ _ old one.0 two.0 one.2 two.2));
        others = λ dest past.
            steps_at-then dest a b
            ∙ rw (first.others dest past, second.others dest (subst (λ (n : ℕ). n ≤ dest) (sym first.dests) past)) refl;
        made = second.made ∙ ap (record_after_all b) first.made ∙ sym (record-then a b p);
      }

  -- one destination went by these steps, and no other
  pub went-one : (i : ℕ) (ss : List WriterStep) (os : List (OutgoingState W)) (old new : OutgoingState W) (before after : TakesMade)
      → slice_get os i ≡ Some old → DestProgress ss old new → after ≡ record_after_steps i ss before
      → DestsProgress (steps_by i ss) os (slice_set os i new) before after
  went-one i ss os old new before after at goes made =
      let within : i < length os = slice_get_within os i old at in
      record {
        dests = length-set os i new;
        each = λ dest other there.
            elim (cases_eq dest i) [
              | inl is ↦ (
                new,
                subst (λ (k : ℕ). slice_get (slice_set os i new) k ≡ Some new) (sym is) (get-set-here os i new within),
                subst (λ (k : ℕ). DestProgress (steps_at k (steps_by i ss)) other new) (sym is)
                    (rw (steps-own i ss)
                    (subst (λ (o : OutgoingState W). DestProgress ss o new) (same old other (sym at ∙ subst (λ (k : ℕ). slice_get os k ≡ Some other) is there)) goes)),
              )
              | inr differs ↦ (
                other,
                get-set-there os i dest new differs ∙ there,
                rw (steps-other dest i ss (λ e. differs (sym e))) (dest-none other),
              )
            ];
        others = λ dest past. steps-other dest i ss (λ e. absurd (omega (arith, e, past, within)));
        made = made ∙ sym (record-own i ss before);
      }

-- ---- the turns of a loop

module _ {W : Type 0} (contents : W → Option (List ℕ)) (may_hand : TakesMade → ℕ → ℕ → List Datapoint → Type 0) where
  -- the turn of a destination is steps of it
  turn-by : (dest : ℕ) (ready : Bool) (t : TurnAt W) (before after : TakesMade) (held : Option (Counting W)) → connection_due ready t.old ≡ held
      → IsTurn contents may_hand dest ready t before after
      → (ss : List WriterStep) × DestProgress ss t.old t.new × (after ≡ record_after_steps dest ss before) × AreHanded may_hand (steps_by dest ss) before
  turn-by dest ready t before after None due turn =
      let nothing = turn.passed due in
      ([], subst (λ (o : OutgoingState W). DestProgress [] t.old o) (sym nothing.1) (dest-none t.old), nothing.2, tt)
  turn-by dest ready t before after (Some held) due turn =
      let done = turn.served held due in
      let was : WasServed contents may_hand dest held done.0 t.old t.new before after = done.2 in
      let steps = was.served.steps in (
        steps_of_turn t.old.limit was.moved done.0,
        record {
          allowed = steps.allowed;
          writer = steps.writer;
          log = steps.log;
          limit = was.limit;
          limits = turn-limits t.old.limit was.moved done.0;
        },
        steps.made,
        turn-handed may_hand dest t.old.limit was.moved done.0 before was.served.handed,
      )

  -- the turns from a destination on
  pub record TurnsBy (dest : ℕ) (ts : List (TurnAt W)) (before after : TakesMade) : Type 0 where
    pub steps : List DestStep
    pub each : (i : ℕ) (t : TurnAt W) → slice_get ts i ≡ Some t → DestProgress (steps_at (dest + i) steps) t.old t.new
    pub below : (n : ℕ) → n < dest → steps_at n steps ≡ []
    pub above : (n : ℕ) → dest + length ts ≤ n → steps_at n steps ≡ []
    pub made : after ≡ record_after_all steps before
    pub handed : AreHanded may_hand steps before

  each-by : (dest : ℕ) (u : TurnAt W) (us : List (TurnAt W)) (between after : TakesMade) (ss : List WriterStep) → DestProgress ss u.old u.new
      → (rest : TurnsBy (dest + 1) us between after)
      → (i : ℕ) (t : TurnAt W) → slice_get (u ∷ us) i ≡ Some t → DestProgress (steps_at (dest + i) (steps_by dest ss ++ rest.steps)) t.old t.new
  each-by dest u us between after ss goes rest zero t at =
      let here : dest ≡ dest + zero = omega arith in
      subst (λ (n : ℕ). DestProgress (steps_at n (steps_by dest ss ++ rest.steps)) t.old t.new) here
      (rw (steps_at-then dest (steps_by dest ss) rest.steps, steps-own dest ss, rest.below dest (omega arith))
      (subst (λ (x : TurnAt W). DestProgress (ss ++ []) x.old x.new) (same u t at) (dest-then ss [] u.old u.new u.new goes (dest-none u.new))))
  each-by dest u us between after ss goes rest (suc i) t at =
      let apart : dest ≢ dest + suc i = λ e. absurd (omega (arith, e)) in
      let here : dest + 1 + i ≡ dest + suc i = omega arith in
      rw (steps_at-then (dest + suc i) (steps_by dest ss) rest.steps, steps-other (dest + suc i) dest ss apart)
      (subst (λ (n : ℕ). DestProgress (steps_at n rest.steps) t.old t.new) here (rest.each i t at))

  turns-by : (ready : ℕ → Bool) (dest : ℕ) (ts : List (TurnAt W)) (before after : TakesMade) → AreTurns contents may_hand ready dest ts before after → TurnsBy dest ts before after
  turns-by ready dest [] before after turns =
      record {
        steps = [];
        each = λ i t at. absurd (none-some t at);
        below = λ n low. refl;
        above = λ n high. refl;
        made = turns;
        handed = tt;
      }
  turns-by ready dest (u ∷ us) before after turns =
      let one = turn-by dest (ready dest) u before turns.0 _ refl turns.1 in
      let rest = turns-by ready (dest + 1) us turns.0 after turns.2 in
      record {
        steps = steps_by dest one.0 ++ rest.steps;
        each = each-by dest u us turns.0 after one.0 one.1 rest;
        below = λ n low.
            steps_at-then n (steps_by dest one.0) rest.steps
            ∙ rw (steps-other n dest one.0 (λ e. absurd (omega (arith, e, low))), rest.below n (omega (arith, low))) refl;
        above = λ n high.
            steps_at-then n (steps_by dest one.0) rest.steps
            ∙ rw (steps-other n dest one.0 (λ e. absurd (omega (arith, e, high))), rest.above n (omega (arith, high))) refl;
        made = rest.made ∙ ap (record_after_all rest.steps) (one.2 ∙ sym (record-own dest one.0 before)) ∙ sym (record-then (steps_by dest one.0) rest.steps before);
        handed =
            handed-then may_hand (steps_by dest one.0) rest.steps before one.3
            (subst (λ (made : TakesMade). AreHanded may_hand rest.steps made) (one.2 ∙ sym (record-own dest one.0 before)) rest.handed);
      }

  turn-at : (ts : List (TurnAt W)) (i : ℕ) (o : OutgoingState W) → slice_get (map (λ t. t.old) ts) i ≡ Some o → (t : TurnAt W) × (slice_get ts i ≡ Some t) × (t.old ≡ o)
  turn-at [] i o at = absurd (none-some o at)
  turn-at (t ∷ ts) zero o at = (t, refl, same t.old o at)
  turn-at (t ∷ ts) (suc i) o at = turn-at ts i o at

  new-at : (ts : List (TurnAt W)) (i : ℕ) (t : TurnAt W) → slice_get ts i ≡ Some t → slice_get (map (λ u. u.new) ts) i ≡ Some t.new
  new-at [] i t at = absurd (none-some t at)
  new-at (u ∷ us) zero t at = ap (λ (x : TurnAt W). Some x.new) (same u t at)
  new-at (u ∷ us) (suc i) t at = new-at us i t at

  -- a turn of a loop is steps of its destinations
  pub went-turn : (ready : ℕ → Bool) (ts : List (TurnAt W)) (olds news : List (OutgoingState W)) (before after : TakesMade)
      → IsLoopTurn contents may_hand ready ts olds news before after
      → SomeProgress may_hand olds news before after
  went-turn ready ts olds news before after turn =
      let all = turns-by ready 0 ts before after turn.in_order in
      let old_count : length olds ≡ length ts = ap length (sym turn.old) ∙ length-map ts (λ t. t.old) in
      let new_count : length news ≡ length ts = ap length (sym turn.new) ∙ length-map ts (λ t. t.new) in (
        all.steps,
        record {
          dests = new_count ∙ sym old_count;
          each = λ dest old at.
              let found = turn-at ts dest old (subst (λ (os : List (OutgoingState W)). slice_get os dest ≡ Some old) (sym turn.old) at) in (
                found.0.new,
                subst (λ (os : List (OutgoingState W)). slice_get os dest ≡ Some found.0.new) turn.new (new-at ts dest found.0 found.1),
                subst (λ (o : OutgoingState W). DestProgress (steps_at dest all.steps) o found.0.new) found.2
                    (subst (λ (n : ℕ). DestProgress (steps_at n all.steps) found.0.old found.0.new) (zero-add dest) (all.each dest found.0 found.1)),
              );
          others = λ dest past. all.above dest (omega (arith, old_count, past));
          made = all.made;
        },
        all.handed,
      )

-- ---- steps with the batches that were handed over

module _ {W : Type 0} (may_hand : TakesMade → ℕ → ℕ → List Datapoint → Type 0) where
  pub some-none : (os : List (OutgoingState W)) (made : TakesMade) → SomeProgress may_hand os os made made
  some-none os made = ([], went-none os made, tt)

  pub some-then : (x y z : List (OutgoingState W)) (p q r : TakesMade) → SomeProgress may_hand x y p q → SomeProgress may_hand y z q r → SomeProgress may_hand x z p r
  some-then x y z p q r first second = (
    first.0 ++ second.0,
    went-then first.0 second.0 x y z p q r first.1 second.1,
    handed-then may_hand first.0 second.0 p first.2 (subst (λ (made : TakesMade). AreHanded may_hand second.0 made) first.1.made second.2),
  )

  -- connections were made and lost, and nothing was handed over
  pub some-connections : (x y : List (OutgoingState W)) (made : TakesMade) → ConnectionsProgress x y → SomeProgress may_hand x y made made
  some-connections x y made went = (went.0, went.2 made, none-handed may_hand went.0 made went.1)

module _ {W : Type 0} where
  pub connections-none : (os : List (OutgoingState W)) → ConnectionsProgress os os
  connections-none os = ([], tt, λ made. went-none os made)

  pub connections-then : (x y z : List (OutgoingState W)) → ConnectionsProgress x y → ConnectionsProgress y z → ConnectionsProgress x z
  connections-then x y z first second = (
    first.0 ++ second.0,
    no_takes-then first.0 second.0 first.1 second.1,
    λ made. went-then first.0 second.0 x y z made made made (first.2 made) (second.2 made),
  )

module _ {W : Type 0} (may_hand may_too : TakesMade → ℕ → ℕ → List Datapoint → Type 0)
    (also : (made : TakesMade) (dest limit : ℕ) (points : List Datapoint) → may_hand made dest limit points → may_too made dest limit points) where
  -- a supply around another hands over what that one may
  pub some-as : (x y : List (OutgoingState W)) (p q : TakesMade) → SomeProgress may_hand x y p q → SomeProgress may_too x y p q
  some-as x y p q went = (went.0, went.1, handed-as may_hand may_too also went.0 p went.2)
