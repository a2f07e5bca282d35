-- The turns of destinations, one after another.
use Rattle.std.proofs.Common.{◌≡◌, ◌<◌, ◌≤◌, ◌+◌, ◌++◌, ◌∙◌, ◌⊎◌, inl, inr, ◌||◌, ◌==◌, if◌then◌else◌, ℕ, Bool, true, cond, List, [], ◌∷◌, map, length, take, drop, set, get_or, Option, refl, sym, ap, subst, arith, add-zero, zero-add, length-append}
use Rattle.std.proofs.lemmas.Grind.{common_steps, drop_more_same, get_or-set_at}
use Rattle.std.proofs.lemmas.List.{map-append, take_more, drop_more, take_more_set, take_all, drop-set-lt, length-set, get_or-set_other}
use Rattle.std.proofs.lemmas.List.Sums.{sum_by-append, count_by-le-length}
use Rattle.std.proofs.Math.Bool.{or-false}
use Rattle.std.proofs.lemmas.List.Folds.{list_any-append}
use Rattle.std.proofs.lemmas.Option.{slice_get-get_or, slice_get_past}
use Rattle.std.proofs.lemmas.Bool.{cases_lt, false≢true}
use Rattle.std.proofs.lemmas.Bool.Decides.{eqb_tells}
use Rattle.std.specs.List.{count_by}
use Rattle.relay_base.specs.declared.dest_id.DestId.{DestId}
use Rattle.line_text.specs.Datapoint.{Datapoint}
use Rattle.std.specs.Option.{is_some}
use Rattle.queue_records.specs.Takes.{TakesMade}
use Rattle.mio_loops.specs.declared.write_report.WriteReport.{WriteReport}
use Rattle.mio_loops.specs.OutgoingState.{OutgoingState}
use Rattle.mio_loops.specs.WriteAnswers.{has_failed}
use Rattle.mio_loops.specs.WriteTurn.{TurnAt, IsTurn, AreTurns}
use Rattle.mio_loops.specs.WriteLoop.{IsReportOf, IsLoopTurn, is_up_at, is_up_of, is_among}

module _ {W : Type 0} (contents : W → Option (List ℕ)) (may_hand : TakesMade → ℕ → ℕ → List Datapoint → Type 0) where
  pub turns-add : (ready : ℕ → Bool) (dest place : ℕ) (ts : List (TurnAt W)) (t : TurnAt W) (before middle after : TakesMade)
      → place ≡ dest + length ts → AreTurns contents may_hand ready dest ts before middle → IsTurn contents may_hand place (ready place) t middle after
      → AreTurns contents may_hand ready dest (ts ++ t ∷ []) before after
  turns-add ready dest place [] t before middle after is first last = (
    after,
    subst (λ (m : TakesMade). IsTurn contents may_hand dest (ready dest) t m after) first
        (subst (λ (n : ℕ). IsTurn contents may_hand n (ready n) t middle after) (is ∙ add-zero dest) last),
    refl,
  )
  turns-add ready dest place (u ∷ us) t before middle after is first last = (
    first.0,
    first.1,
    turns-add ready (dest + 1) place us t first.0 middle after (omega arith) first.2 last,
  )

module _ {W : Type 0} where
  count-add : (p : TurnAt W → Bool) (ts : List (TurnAt W)) (t : TurnAt W) → count_by p (ts ++ t ∷ []) ≡ count_by p ts + (if p t then 1 else 0)
  count-add p ts t =
      sum_by-append (λ x. cond (p x) 1 0) ts (t ∷ []) ∙ ap (λ (n : ℕ). count_by p ts + n) (zero-add (if p t then 1 else 0))

  -- the report of the turns so far, with one more
  pub report-add : (turns : List (TurnAt W)) (t : TurnAt W) (old new : WriteReport) → IsReportOf turns old
      → new ≡ record {
        served = old.served + (if is_some t.answer then 1 else 0);
        failed = old.failed + (if has_failed t.answer then 1 else 0);
      }
      → IsReportOf (turns ++ t ∷ []) new
  report-add turns t old new r is =
      record {
        served = ap (λ (n : WriteReport). n.served) is ∙ ap (λ (n : ℕ). n + (if is_some t.answer then 1 else 0)) r.served ∙ sym (count-add (λ u. is_some u.answer) turns t);
        failed = ap (λ (n : WriteReport). n.failed) is ∙ ap (λ (n : ℕ). n + (if has_failed t.answer then 1 else 0)) r.failed ∙ sym (count-add (λ u. has_failed u.answer) turns t);
      }

  -- what two lists that are the same from there on have at a place
  pub same_at : (olds news : List (OutgoingState W)) (i : ℕ) (d : OutgoingState W) → drop i news ≡ drop i olds → i < length news → i < length olds → get_or olds i d ≡ get_or news i d
  same_at olds news i d rest within inside =
      let a = drop_more olds i d inside in
      let b = drop_more news i d within in
      cc

-- the turns of the first destinations
pub record TurnsSoFar {W : Type 0} (contents : W → Option (List ℕ)) (may_hand : TakesMade → ℕ → ℕ → List Datapoint → Type 0) (ready : ℕ → Bool) (turns : List (TurnAt W))
    (olds news : List (OutgoingState W)) (count : ℕ) (before after : TakesMade) (report : WriteReport) : Type 0 where
  pub so_many : length turns ≡ count
  pub old : map (λ t. t.old) turns ≡ take count olds
  pub new : map (λ t. t.new) turns ≡ take count news
  pub rest : drop count news ≡ drop count olds
  pub lengths : length news ≡ length olds
  pub in_order : AreTurns contents may_hand ready 0 turns before after
  pub reported : IsReportOf turns report

module _ {W : Type 0} (contents : W → Option (List ℕ)) (may_hand : TakesMade → ℕ → ℕ → List Datapoint → Type 0) where
  pub none-so_far : (ready : ℕ → Bool) (olds : List (OutgoingState W)) (before : TakesMade) → TurnsSoFar contents may_hand ready [] olds olds 0 before before (record { served = 0; failed = 0 })
  none-so_far ready olds before =
      record {
        so_many = refl;
        old = refl;
        new = refl;
        rest = refl;
        lengths = refl;
        in_order = refl;
        reported = record { served = refl; failed = refl };
      }

  pub one_more : (ready : ℕ → Bool) (turns : List (TurnAt W)) (olds news : List (OutgoingState W)) (i : ℕ) (before middle after : TakesMade) (report report' : WriteReport)
      (d y : OutgoingState W) (t : TurnAt W) → t.old ≡ get_or news i d → t.new ≡ y
      → TurnsSoFar contents may_hand ready turns olds news i before middle report → i < length news
      → IsTurn contents may_hand i (ready i) t middle after
      → report' ≡ record {
        served = report.served + (if is_some t.answer then 1 else 0);
        failed = report.failed + (if has_failed t.answer then 1 else 0);
      }
      → TurnsSoFar contents may_hand ready (turns ++ t ∷ []) olds (set news i y) (i + 1) before after report'
  one_more ready turns olds news i before middle after report report' d y t is_x is_y so_far within turn counted =
      let lengths = so_far.lengths in
      let inside : i < length olds = omega arith in
      let many = so_far.so_many in
      record {
        so_many = length-append turns (t ∷ []) ∙ ap (λ (n : ℕ). n + 1) many;
        old = map-append (λ u. u.old) turns (t ∷ [])
            ∙ ap (λ (l : List (OutgoingState W)). l ++ t.old ∷ []) so_far.old
            ∙ ap (λ (o : OutgoingState W). take i olds ++ o ∷ []) (is_x ∙ sym (same_at olds news i d so_far.rest within inside))
            ∙ sym (take_more olds i d inside);
        new = map-append (λ u. u.new) turns (t ∷ [])
            ∙ ap (λ (l : List (OutgoingState W)). l ++ t.new ∷ []) so_far.new
            ∙ ap (λ (o : OutgoingState W). take i news ++ o ∷ []) is_y
            ∙ sym (take_more_set news i y within);
        rest = drop-set-lt (i + 1) news i y (omega arith) ∙ drop_more_same news olds i so_far.rest;
        lengths = grind (arith, common_steps);
        in_order = turns-add contents may_hand ready 0 i turns t before middle after (omega arith) so_far.in_order turn;
        reported = report-add turns t report report' so_far.reported counted;
      }

  -- the counts of the turns of a few destinations fit
  pub served-few : (ready : ℕ → Bool) (turns : List (TurnAt W)) (olds news : List (OutgoingState W)) (i : ℕ) (before after : TakesMade) (report : WriteReport)
      → TurnsSoFar contents may_hand ready turns olds news i before after report → i < 64 → report.served < 4294967296
  served-few ready turns olds news i before after report so_far low =
      let is = so_far.reported.served in
      let few = count_by-le-length (λ t. is_some t.answer) turns in
      let many = so_far.so_many in
      omega (arith, is, few, many, low)

  pub failed-few : (ready : ℕ → Bool) (turns : List (TurnAt W)) (olds news : List (OutgoingState W)) (i : ℕ) (before after : TakesMade) (report : WriteReport)
      → TurnsSoFar contents may_hand ready turns olds news i before after report → i < 64 → report.failed < 4294967296
  failed-few ready turns olds news i before after report so_far low =
      let is = so_far.reported.failed in
      let few = count_by-le-length (λ t. has_failed t.answer) turns in
      let many = so_far.so_many in
      omega (arith, is, few, many, low)

  -- the turns of all destinations
  pub all-turned : (ready : ℕ → Bool) (turns : List (TurnAt W)) (olds news : List (OutgoingState W)) (count : ℕ) (before after : TakesMade) (report : WriteReport)
      → TurnsSoFar contents may_hand ready turns olds news count before after report → length olds ≤ count → IsLoopTurn contents may_hand ready turns olds news before after
  all-turned ready turns olds news count before after report so_far all =
      record {
        old = so_far.old ∙ take_all count olds all;
        new = so_far.new ∙ take_all count news (subst (λ (n : ℕ). n ≤ count) (sym so_far.lengths) all);
        in_order = so_far.in_order;
      }

module _ {W : Type 0} where
  at-place : (xs : List (OutgoingState W)) (i : ℕ) (d : OutgoingState W) → i < length xs → is_up_at xs i ≡ (get_or xs i d).writer.up
  at-place xs i d within = ap is_up_of (slice_get-get_or xs i d within)

  pub up-here : (xs : List (OutgoingState W)) (i : ℕ) (d : OutgoingState W) → i < length xs → (get_or xs i d).writer.up ≡ true → is_up_at xs i ≡ true
  up-here xs i d within up = at-place xs i d within ∙ up

  -- what has a connection is there
  pub up-within : (xs : List (OutgoingState W)) (dest : ℕ) → is_up_at xs dest ≡ true → dest < length xs
  up-within xs dest up =
      elim (cases_lt dest (length xs)) [
        | inl low ↦ low
        | inr high ↦ absurd (false≢true (sym (ap is_up_of (slice_get_past xs dest high)) ∙ up))
      ]

  -- where one destination is written, each that has a connection had it before, or is that one
  pub up-set : (xs : List (OutgoingState W)) (i dest : ℕ) (y : OutgoingState W) → i < length xs → is_up_at (set xs i y) dest ≡ true
      → ((dest ≡ i) × (y.writer.up ≡ true)) ⊎ (is_up_at xs dest ≡ true)
  up-set xs i dest y within up =
      let same = length-set xs i y in
      elim (cases_lt dest (length xs)) [
        | inl low ↦
            let low_too : dest < length (set xs i y) = omega arith in
            let there = sym (at-place (set xs i y) dest y low_too) ∙ up in
            elim (eqb_tells dest i) [
              | inl w ↦ inl (w.1, ap (λ (o : OutgoingState W). o.writer.up) (sym (get_or-set_at xs i dest y y w.1 within)) ∙ there)
              | inr w ↦ inr (up-here xs dest y low (ap (λ (o : OutgoingState W). o.writer.up) (sym (get_or-set_other xs i dest y y w.1)) ∙ there))
            ]
        | inr high ↦
            let high_too : length (set xs i y) ≤ dest = omega arith in
            absurd (false≢true (sym (ap is_up_of (slice_get_past (set xs i y) dest high_too)) ∙ up))
      ]

  -- after the turn of one destination
  pub ups-more : (olds news : List (OutgoingState W)) (i : ℕ) (d y : OutgoingState W) → i < length news → (y.writer.up ≡ true → (get_or news i d).writer.up ≡ true)
      → ((dest : ℕ) → is_up_at news dest ≡ true → is_up_at olds dest ≡ true)
      → (dest : ℕ) → is_up_at (set news i y) dest ≡ true → is_up_at olds dest ≡ true
  ups-more olds news i d y within turn before dest up =
      elim (up-set news i dest y within up) [
        | inl w ↦ before dest (subst (λ (n : ℕ). is_up_at news n ≡ true) (sym w.0) (up-here news i d within (turn w.1)))
        | inr w ↦ before dest w
      ]

-- one more that is ready
pub among-more : (ready : List DestId) (i : ℕ) (d : DestId) (dest : ℕ) → i < length ready → is_among (take (i + 1) ready) dest ≡ (is_among (take i ready) dest || ((get_or ready i d).0 == dest))
among-more ready i d dest within =
    ap (λ (l : List DestId). is_among l dest) (take_more ready i d within)
    ∙ list_any-append (λ r. r.0 == dest) (take i ready) (get_or ready i d ∷ [])
    ∙ ap (λ (b : Bool). is_among (take i ready) dest || b) (or-false ((get_or ready i d).0 == dest))
