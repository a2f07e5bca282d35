-- The bytes 10 in what connections took are the datapoints that they took whole.
use Rattle.std.proofs.Common.{◌≡◌, ◌≤◌, ◌<◌, ℕ, zero, suc, ◌+◌, ◌-◌, leb, Bool, true, false, List, [], ◌∷◌, ◌++◌, length, take, drop, filter, refl, sym, ap, ◌∙◌, arith, leb-true, leb-false}
use Rattle.std.specs.Prelude.{◌==◌}
use Rattle.std.specs.List.{AllByRecursion}
use Rattle.std.proofs.lemmas.Bool.{and_parts, false≢true}
use Rattle.std.proofs.lemmas.List.{take-append-drop, drop-drop, drop-append-le, take_all, length-append, length-drop}
use Rattle.std.proofs.lemmas.List.Elements.{filter-append}
use Rattle.std.proofs.lemmas.List.Sums.{length-filter}
use Rattle.std.proofs.Math.Seq.{drop-nil}
use Rattle.relay_base.specs.Ascii.{newline}
use Rattle.line_text.specs.Datapoint.{Datapoint}
use Rattle.line_text.specs.Print.{printed_text, printed_line, printed_lines}
use Rattle.line_text.specs.Laws.{IsDatapoint, OneLineLaw}
use Rattle.dest_writer.specs.Writer.{WriterState, left, fresh_writer, is_empty_handed, unfinished_points}
use Rattle.mio_loops.specs.WriterSteps.{WriterStep, UpStep, TakeStep, WroteStep, DownStep, IsAllowed, AreAllowed, writer_after_step, bytes_of_step, writer_after_steps, bytes_of_steps}
use Rattle.settled_run.specs.LinesTaken.{points_taken, newlines_in, UnsentLaw}

-- the datapoints of one step
abbrev points_of_step : WriterStep → List Datapoint
points_of_step UpStep = []
points_of_step (TakeStep limit batch) = batch
points_of_step (WroteStep count) = []
points_of_step DownStep = []

points_taken-cons : (step : WriterStep) (steps : List WriterStep) → points_taken (step ∷ steps) ≡ points_of_step step ++ points_taken steps
points_taken-cons UpStep steps = refl
points_taken-cons (TakeStep limit batch) steps = refl
points_taken-cons (WroteStep count) steps = refl
points_taken-cons DownStep steps = refl

newlines-append : (a b : List ℕ) → newlines_in (a ++ b) ≡ newlines_in a + newlines_in b
newlines-append a b =
    let is_newline = λ (b : ℕ). b == newline in
    let whole = length-filter is_newline (a ++ b) in
    let first = length-filter is_newline a in
    let second = length-filter is_newline b in
    let parts = ap (λ (l : List ℕ). length l) (filter-append is_newline a b) ∙ length-append (filter is_newline a) (filter is_newline b) in
    omega (arith, whole, first, second, parts)

joined : {A : Type 0} (P : A → Type 0) (xs ys : List A) → AllByRecursion P (xs ++ ys) → AllByRecursion P xs × AllByRecursion P ys
joined P [] ys h = (tt, h)
joined P (x ∷ xs) ys h = let rest = joined P xs ys h.1 in ((h.0, rest.0), rest.1)

empty_handed : (points : List Datapoint) → is_empty_handed points ≡ true → points ≡ []
empty_handed [] e = refl
empty_handed (point ∷ points) e = absurd (false≢true e)

drop-past : (n : ℕ) (xs ys : List ℕ) → length xs ≤ n → drop n (xs ++ ys) ≡ drop (n - length xs) ys
drop-past n [] ys le = ap (λ (m : ℕ). drop m ys) (omega arith)
drop-past zero (x ∷ xs) ys le = absurd (omega (arith, le))
drop-past (suc n) (x ∷ xs) ys le =
    let same : suc n - suc (length xs) ≡ n - length xs = omega arith in
    drop-past n xs ys (omega (arith, le)) ∙ ap (λ (m : ℕ). drop m ys) (sym same)

module _ (one_line : OneLineLaw) where
  line-has_one : (p : Datapoint) → IsDatapoint p → newlines_in (printed_line p) ≡ 1
  line-has_one p is = sym (length-filter (λ b. b == newline) (printed_line p)) ∙ ap (λ (l : List ℕ). length l) (one_line p is).one

  text-has_none : (p : Datapoint) → IsDatapoint p → newlines_in (printed_text p) ≡ 0
  text-has_none p is =
      let whole = line-has_one p is in
      let parts = newlines-append (printed_text p) (newline ∷ []) in
      let last : newlines_in (newline ∷ []) ≡ 1 = refl in
      omega (arith, whole, parts, last)

  lines-have : (points : List Datapoint) → AllByRecursion IsDatapoint points → newlines_in (printed_lines points) ≡ length points
  lines-have [] h = refl
  lines-have (p ∷ points) h =
      let parts = newlines-append (printed_line p) (printed_lines points) in
      let first = line-has_one p h.0 in
      let rest = lines-have points h.1 in
      omega (arith, parts, first, rest)

  -- a line that was not wholly taken has its newline left
  rest-has_one : (p : Datapoint) (written : ℕ) → IsDatapoint p → written < length (printed_line p) → newlines_in (drop written (printed_line p)) ≡ 1
  rest-has_one p written is less =
      let text = printed_text p in
      let within : written ≤ length text = let long = length-append text (newline ∷ []) in omega (arith, long, less) in
      let cut : drop written (text ++ newline ∷ []) ≡ drop written text ++ newline ∷ [] = drop-append-le written text (newline ∷ []) within in
      let none = text-has_none p is in
      let both : newlines_in text ≡ newlines_in (take written text) + newlines_in (drop written text) =
      ap newlines_in (sym (take-append-drop written text)) ∙ newlines-append (take written text) (drop written text) in
      let sum = newlines-append (drop written text) (newline ∷ []) in
      ap newlines_in cut ∙ omega (arith, none, both, sum)

  -- what is left of the hand's text has as many newlines as datapoints are unfinished
  left-has : (hand : List Datapoint) (written : ℕ) → AllByRecursion IsDatapoint hand
      → newlines_in (drop written (printed_lines hand)) ≡ length (unfinished_points written hand)
  left-has [] written h = ap newlines_in (drop-nil written)
  left-has (p ∷ hand) written h = by_case (leb (length (printed_line p)) written) refl (left-has hand (written - length (printed_line p)) h.1)
    where
      by_case : (b : Bool) → leb (length (printed_line p)) written ≡ b
          → newlines_in (drop (written - length (printed_line p)) (printed_lines hand)) ≡ length (unfinished_points (written - length (printed_line p)) hand)
          → newlines_in (drop written (printed_line p ++ printed_lines hand)) ≡ length (unfinished_points written (p ∷ hand))
      by_case true e rest =
          let le = leb-true _ _ e in
          let past : drop written (printed_line p ++ printed_lines hand) ≡ drop (written - length (printed_line p)) (printed_lines hand) =
          drop-past written (printed_line p) (printed_lines hand) le in
          rw e (ap newlines_in past ∙ rest)
      by_case false e rest =
          let less = leb-false _ _ e in
          let cut = drop-append-le written (printed_line p) (printed_lines hand) (omega (arith, less)) in
          let first = rest-has_one p written h.0 less in
          let others = lines-have hand h.1 in
          let sum = newlines-append (drop written (printed_line p)) (printed_lines hand) in
          rw e (ap newlines_in cut ∙ omega (arith, first, others, sum))

  unfinished-are : (hand : List Datapoint) (written : ℕ) → AllByRecursion IsDatapoint hand → AllByRecursion IsDatapoint (unfinished_points written hand)
  unfinished-are [] written h = tt
  unfinished-are (p ∷ hand) written h = by_case (leb (length (printed_line p)) written) refl (unfinished-are hand (written - length (printed_line p)) h.1)
    where
      by_case : (b : Bool) → leb (length (printed_line p)) written ≡ b
          → AllByRecursion IsDatapoint (unfinished_points (written - length (printed_line p)) hand)
          → AllByRecursion IsDatapoint (unfinished_points written (p ∷ hand))
      by_case true e rest = rw e rest
      by_case false e rest = rw e h

  -- the newlines of what is left in hand
  abbrev left_of : WriterState → ℕ
  left_of w = newlines_in (drop w.written (printed_lines w.hand))

  record Leads (step : WriterStep) (w : WriterState) : Type 0 where
    sound : AllByRecursion IsDatapoint (writer_after_step step w).hand
    count : newlines_in (bytes_of_step step w) + left_of (writer_after_step step w) ≡ left_of w + length (points_of_step step)

  wrote : (count : ℕ) (w : WriterState) → AllByRecursion IsDatapoint w.hand → (b : Bool) → leb (left w) count ≡ b → Leads (WroteStep count) w
  wrote count w h true e =
      let rest = drop w.written (printed_lines w.hand) in
      let whole : take count rest ≡ rest = take_all count rest (rw length-drop (leb-true _ _ e)) in
      record {
        sound = rw e tt;
        count = rw (e, whole) (omega arith);
      }
  wrote count w h false e =
      let rest = drop w.written (printed_lines w.hand) in
      let both : newlines_in rest ≡ newlines_in (take count rest) + newlines_in (drop count rest) =
      ap newlines_in (sym (take-append-drop count rest)) ∙ newlines-append (take count rest) (drop count rest) in
      let on : drop count rest ≡ drop (w.written + count) (printed_lines w.hand) = drop-drop count w.written (printed_lines w.hand) in
      let left_on = ap newlines_in on in
      record {
        sound = rw e h;
        count = rw e (omega (arith, both, left_on));
      }

  one_step : (step : WriterStep) (w : WriterState) → IsAllowed step w → AllByRecursion IsDatapoint w.hand → AllByRecursion IsDatapoint (points_of_step step) → Leads step w
  one_step UpStep w may h b = record { sound = h; count = omega arith }
  one_step (TakeStep limit batch) w may h b =
      let none : w.hand ≡ [] = empty_handed w.hand (and_parts _ _ may.0).1 in
      let before : left_of w ≡ 0 = rw none (ap newlines_in (drop-nil w.written)) in
      let after = lines-have batch b in
      record { sound = b; count = omega (arith, before, after) }
  one_step (WroteStep count) w may h b = wrote count w h (leb (left w) count) refl
  one_step DownStep w may h b =
      let same = left-has w.hand w.written h in
      let after = lines-have (unfinished_points w.written w.hand) (unfinished-are w.hand w.written h) in
      record { sound = unfinished-are w.hand w.written h; count = omega (arith, same, after) }

  all_steps : (steps : List WriterStep) (w : WriterState) → AreAllowed steps w → AllByRecursion IsDatapoint w.hand → AllByRecursion IsDatapoint (points_taken steps)
      → newlines_in (bytes_of_steps steps w) + length (unfinished_points (writer_after_steps steps w).written (writer_after_steps steps w).hand)
      ≡ left_of w + length (points_taken steps)
  all_steps [] w may h b = let same = left-has w.hand w.written h in omega (arith, same)
  all_steps (step ∷ steps) w may h b =
      let parts = joined IsDatapoint (points_of_step step) (points_taken steps) (rw (points_taken-cons step steps) at b) in
      let first = one_step step w may.0 h parts.0 in
      let rest = all_steps steps (writer_after_step step w) may.1 first.sound parts.1 in
      let here = first.count in
      let bytes = newlines-append (bytes_of_step step w) (bytes_of_steps steps (writer_after_step step w)) in
      let points = ap (λ (l : List Datapoint). length l) (points_taken-cons step steps) ∙ length-append (points_of_step step) (points_taken steps) in
      omega (arith, rest, here, bytes, points)

  pub kept-is : UnsentLaw
  kept-is = λ size q steps balanced may are taken.
      let all = all_steps steps fresh_writer may tt are in
      let kept = balanced.kept in
      omega (arith, all, kept, taken)
