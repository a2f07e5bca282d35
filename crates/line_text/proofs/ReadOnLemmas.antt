-- A connection that goes on at another reader.
use Rattle.std.proofs.Common.{◌≡◌, ℕ, ◌+◌, inl, inr, Bool, true, false, cond, List, [], ◌∷◌, ◌++◌, refl, ap, sym, ◌∙◌, subst}
use Rattle.std.proofs.lemmas.Bool.{cases_Bool}
use Rattle.line_text.specs.Line.{Line, points, bad_count}
use Rattle.line_text.specs.Connection.{Arrival, arrivals, Texts, cut, cut_from, cut_with, is_newline, is_open, accepted_points, bad_lines}
use Rattle.line_text.specs.Laws.{ReadsOn}
use Rattle.line_text.specs.Reader.{is_newline_byte, short_lines, is_open_cut}
use Rattle.line_text.proofs.ConnectionLemmas.{joined, cut-append, more_of, is_open-open, accepted_points-open, bad_lines-open}
use Rattle.line_text.proofs.CutLemmas.{before_newline}

-- ---- what follows the last newline has none

abbrev pub Quiet : ℕ → Texts → Type 0
Quiet moment k = cut (arrivals k.unended moment) ≡ record { ended = []; unended = k.unended }

quiet-with : (b : ℕ) (ended : List Line) (unended : List ℕ) (moment : ℕ) → is_newline_byte b ≡ false → Quiet moment (record { ended = ended; unended = unended }) → Quiet moment (cut_with b ended unended)
quiet-with b [] unended moment goes quiet = before_newline b unended moment goes ∙ ap (λ (k : Texts). cut_with b k.ended k.unended) quiet
quiet-with b (line ∷ others) unended moment goes quiet = quiet

pub quiet-unended : (c : List Arrival) (moment : ℕ) → Quiet moment (cut c)
quiet-unended [] moment = refl
quiet-unended (a ∷ c) moment =
    elim (cases_Bool (is_newline a)) [
      | inl ends ↦ subst (Quiet moment) (sym (chosen true ends)) (quiet-unended c moment)
      | inr goes ↦ subst (Quiet moment) (sym (chosen false goes)) (quiet-with a.byte (cut c).ended (cut c).unended moment goes (quiet-unended c moment))
    ]
  where
    with_ends : Bool → Texts
    with_ends t = cond t (record (cut c) { ended = (record { text = []; moment = a.moment }) ∷ (cut c).ended }) (cut_with a.byte (cut c).ended (cut c).unended)

    chosen : (t : Bool) → is_newline a ≡ t → cut_from a (cut c) ≡ with_ends t
    chosen t is = ap with_ends is

-- ---- so it may be fed first to another reader

cut-read_on : (c d : List Arrival) (moment : ℕ) → cut (arrivals (cut c).unended moment ++ d) ≡ more_of c d
cut-read_on c d moment =
    cut-append (arrivals (cut c).unended moment) d ∙ ap (λ (k : Texts). joined k (cut d)) (quiet-unended c moment)

pub reads_on : (c d : List Arrival) (moment : ℕ) → is_open c ≡ true → ReadsOn c d moment
reads_on c d moment opens =
    let more = sym (cut-read_on c d moment) in
    record {
      accepted_points = accepted_points-open c d opens ∙ ap (λ (k : Texts). accepted_points c ++ points (short_lines k)) more;
      bad = bad_lines-open c d opens ∙ ap (λ (k : Texts). bad_lines c + bad_count (short_lines k)) more;
      stays_open = is_open-open c d opens ∙ ap is_open_cut more;
    }
