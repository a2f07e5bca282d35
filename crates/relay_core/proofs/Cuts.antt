-- Any first part of a text of lines is whole lines and a part of one line.
use Rattle.std.proofs.Common.{◌≡◌, ◌<◌, ◌≤◌, ◌-◌, ◌+◌, ℕ, zero, suc, leb, Bool, true, false, cond, List, [], ◌∷◌, ◌++◌, length, take, refl, sym, ap, ◌∙◌, arith}
use Rattle.std.proofs.lemmas.Bool.{leb-true, leb-false, lt-leb}
use Rattle.std.proofs.lemmas.List.{append_assoc, length-append, take-append-le}
use Rattle.std.proofs.Math.Seq.{take-add, take-append_seam, drop-append_seam}
use Rattle.line_text.specs.Datapoint.{Datapoint}
use Rattle.line_text.specs.Print.{printed_line, printed_lines}
use Rattle.dest_writer.specs.Writer.{unfinished_points}
use Rattle.relay_core.specs.Laws.{IsPartOfFirst}

pub length_printed : (p : Datapoint) → 0 < length (printed_line p)
length_printed p = rw length-append (omega arith)

pub take-nil : (n : ℕ) → take {A = ℕ} n [] ≡ []
take-nil zero = refl
take-nil (suc n) = refl

-- of these points, those whose last byte is among this number of bytes of their text
abbrev pub finished : ℕ → List Datapoint → List Datapoint
finished written [] = []
finished written (point ∷ points) =
    cond (leb (length (printed_line point)) written) (point ∷ finished (written - length (printed_line point)) points) []

pub finished-unfinished : (written : ℕ) (points : List Datapoint) → finished written points ++ unfinished_points written points ≡ points
finished-unfinished written [] = refl
finished-unfinished written (point ∷ points) =
    by_case (leb (length (printed_line point)) written) refl (finished-unfinished (written - length (printed_line point)) points)
  where
    by_case : (b : Bool) → leb (length (printed_line point)) written ≡ b
        → finished (written - length (printed_line point)) points ++ unfinished_points (written - length (printed_line point)) points ≡ points
        → finished written (point ∷ points) ++ unfinished_points written (point ∷ points) ≡ point ∷ points
    by_case true h rest = rw h (ap (λ all. point ∷ all) rest)
    by_case false h rest = rw h

-- nothing was taken
pub unfinished_points-none : (points : List Datapoint) → unfinished_points 0 points ≡ points
unfinished_points-none [] = refl
unfinished_points-none (point ∷ points) = rw (lt-leb (length (printed_line point)) 0 (length_printed point))

take-front : (xs ys : List ℕ) (n : ℕ) → length xs ≤ n → take n (xs ++ ys) ≡ xs ++ take (n - length xs) ys
take-front xs ys n l =
    let e : n ≡ length xs + (n - length xs) = omega arith in
    ap (λ k. take k (xs ++ ys)) e ∙ take-add (length xs) (n - length xs) (xs ++ ys) ∙ rw (take-append_seam, drop-append_seam)

-- what was taken of the points' text: the lines of those that are finished, and a part of the next line
pub record IsCut (written : ℕ) (points : List Datapoint) : Type 0 where
  pub part : List ℕ
  pub taken : take written (printed_lines points) ≡ printed_lines (finished written points) ++ part
  pub begun : IsPartOfFirst part (unfinished_points written points)

pub cut_at : (written : ℕ) (points : List Datapoint) → IsCut written points
cut_at written [] = record { part = []; taken = take-nil written; begun = refl }
cut_at written (point ∷ points) = by_case (leb (length (printed_line point)) written) refl (cut_at (written - length (printed_line point)) points)
  where
    by_case : (b : Bool) → leb (length (printed_line point)) written ≡ b → IsCut (written - length (printed_line point)) points
        → IsCut written (point ∷ points)
    by_case true h cut =
        record {
          part = cut.part;
          taken =
              take-front (printed_line point) (printed_lines points) written (leb-true _ _ h)
              ∙ rw (h, cut.taken) (sym (append_assoc (printed_line point) (printed_lines (finished (written - length (printed_line point)) points)) cut.part));
          begun = rw h cut.begun;
        }
    by_case false h cut =
        let l = leb-false _ _ h in
        record {
          part = take written (printed_line point);
          taken = rw h (take-append-le written (printed_line point) (printed_lines points) (omega (arith, l)));
          begun = rw h (written, l, refl);
        }

-- a part of no line, if points follow
IsPartOfFirst-none : (part : List ℕ) (points : List Datapoint) → part ≡ [] → IsPartOfFirst part points
IsPartOfFirst-none part [] e = e
IsPartOfFirst-none part (point ∷ points) e = (0, length_printed point, e)

-- with more points behind
pub IsPartOfFirst-more : (part : List ℕ) (points more : List Datapoint) → IsPartOfFirst part points → IsPartOfFirst part (points ++ more)
IsPartOfFirst-more part [] more begun = IsPartOfFirst-none part more begun
IsPartOfFirst-more part (point ∷ points) more begun = begun
