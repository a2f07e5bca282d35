-- What more bytes add to a connection.
use Rattle.std.proofs.Common.{◌≡◌, ℕ, ◌+◌, inl, inr, Bool, true, false, ◌&&◌, cond, List, [], ◌∷◌, ◌++◌, length, refl, ap, sym, ◌∙◌, arith, length-append, append-nil}
use Rattle.std.specs.List.{list_all}
use Rattle.std.proofs.lemmas.Bool.{cases_Bool, and_parts, leb-false, lt-leb}
use Rattle.std.proofs.lemmas.List.Folds.{list_all-append}
use Rattle.line_text.specs.Datapoint.{Datapoint}
use Rattle.line_text.specs.Line.{Line, points, bad_count}
use Rattle.line_text.specs.Connection.{Arrival, Texts, longest_line, cut, cut_from, cut_with, is_newline, is_short, fits, lines, is_open, accepted_points, bad_lines}
use Rattle.line_text.specs.Reader.{with_rest, short_lines, is_open_cut}
use Rattle.line_text.proofs.LineLemmas.{take_while-append, take_while-all, take_while-not_all, take_while-fails, points-append, bad_count-append}

-- ---- a cut of all from the cuts of both parts

pub with_rest-nothing : (k : Texts) → with_rest [] k.ended k.unended ≡ k
with_rest-nothing k = with_ended k.ended k.unended
  where
    with_ended : (ended : List Line) (unended : List ℕ) → with_rest [] ended unended ≡ record { ended = ended; unended = unended }
    with_ended [] unended = refl
    with_ended (line ∷ others) unended = refl

-- a cut, and then what follows its last text
abbrev pub joined : Texts → Texts → Texts
joined k m = record { ended = k.ended ++ (with_rest k.unended m.ended m.unended).ended; unended = (with_rest k.unended m.ended m.unended).unended }

with_rest-byte : (b : ℕ) (rest : List ℕ) (ended : List Line) (unended : List ℕ) → cut_with b (with_rest rest ended unended).ended (with_rest rest ended unended).unended ≡ with_rest (b ∷ rest) ended unended
with_rest-byte b rest [] unended = refl
with_rest-byte b rest (line ∷ others) unended = refl

cut_with-joined : (b : ℕ) (ended : List Line) (unended : List ℕ) (m : Texts) → cut_with b (joined (record { ended = ended; unended = unended }) m).ended (joined (record { ended = ended; unended = unended }) m).unended ≡ joined (cut_with b ended unended) m
cut_with-joined b [] unended m = with_rest-byte b unended m.ended m.unended
cut_with-joined b (line ∷ others) unended m = refl

cut_from-joined : (a : Arrival) (k m : Texts) → cut_from a (joined k m) ≡ joined (cut_from a k) m
cut_from-joined a k m =
    elim (cases_Bool (is_newline a)) [
      | inl ends ↦ chosen true ends ∙ refl ∙ sym (ap (λ k'. joined k' m) (chosen_left true ends))
      | inr goes ↦ chosen false goes ∙ cut_with-joined a.byte k.ended k.unended m ∙ sym (ap (λ k'. joined k' m) (chosen_left false goes))
    ]
  where
    with_ends : Bool → Texts → Texts
    with_ends t k' = cond t (record k' { ended = (record { text = []; moment = a.moment }) ∷ k'.ended }) (cut_with a.byte k'.ended k'.unended)

    chosen : (t : Bool) → is_newline a ≡ t → cut_from a (joined k m) ≡ with_ends t (joined k m)
    chosen t is = ap (λ (t' : Bool). with_ends t' (joined k m)) is

    chosen_left : (t : Bool) → is_newline a ≡ t → cut_from a k ≡ with_ends t k
    chosen_left t is = ap (λ (t' : Bool). with_ends t' k) is

pub cut-append : (c d : List Arrival) → cut (c ++ d) ≡ joined (cut c) (cut d)
cut-append [] d = sym (with_rest-nothing (cut d))
cut-append (a ∷ c) d = ap (cut_from a) (cut-append c d) ∙ cut_from-joined a (cut c) (cut d)

-- ---- after a connection that is open

-- what more bytes add to the cut of a connection
abbrev pub more_of : List Arrival → List Arrival → Texts
more_of c d = with_rest (cut c).unended (cut d).ended (cut d).unended

pub lines-open : (c d : List Arrival) → is_open c ≡ true → lines (c ++ d) ≡ lines c ++ short_lines (more_of c d)
lines-open c d opens =
    let all = (and_parts (list_all is_short (cut c).ended) (fits (cut c).unended) opens).0 in
    ap short_lines (cut-append c d)
    ∙ take_while-append is_short (cut c).ended (more_of c d).ended all
    ∙ ap (λ (before : List Line). before ++ short_lines (more_of c d)) (sym (take_while-all is_short (cut c).ended all))

pub is_open-open : (c d : List Arrival) → is_open c ≡ true → is_open (c ++ d) ≡ is_open_cut (more_of c d)
is_open-open c d opens =
    let all = (and_parts (list_all is_short (cut c).ended) (fits (cut c).unended) opens).0 in
    ap is_open_cut (cut-append c d)
    ∙ ap (λ (t : Bool). t && fits (more_of c d).unended) (list_all-append is_short (cut c).ended (more_of c d).ended)
    ∙ ap (λ (t : Bool). (t && list_all is_short (more_of c d).ended) && fits (more_of c d).unended) all

pub unended-append : (c d : List Arrival) → (cut (c ++ d)).unended ≡ (more_of c d).unended
unended-append c d = ap (λ (k : Texts). k.unended) (cut-append c d)

-- ---- after a connection that is closed

fits-longer : (rest more : List ℕ) → fits rest ≡ false → fits (rest ++ more) ≡ false
fits-longer rest more long = lt-leb _ _ (omega (arith, leb-false (length rest) longest_line long, length-append rest more))

-- a rest that is too long makes the first line after it too long
record TooLong (k : Texts) : Type 0 where
  lines : short_lines k ≡ []
  closes : is_open_cut k ≡ false

with_rest-too_long : (rest : List ℕ) (ended : List Line) (unended : List ℕ) → fits rest ≡ false → TooLong (with_rest rest ended unended)
with_rest-too_long rest [] unended long = record { lines = refl; closes = fits-longer rest unended long }
with_rest-too_long rest (line ∷ others) unended long =
    let first = fits-longer rest line.text long in
    record {
      lines = take_while-fails is_short (record line { text = rest ++ line.text }) others first;
      closes = ap (λ (t : Bool). (t && list_all is_short others) && fits unended) first;
    }

-- a reader reads nothing more of a closed connection
pub record StaysClosed (c d : List Arrival) : Type 0 where
  pub lines : lines (c ++ d) ≡ lines c
  pub closed : is_open (c ++ d) ≡ false

closed_by_line : (c d : List Arrival) → list_all is_short (cut c).ended ≡ false → StaysClosed c d
closed_by_line c d long = record {
  lines = ap short_lines (cut-append c d) ∙ take_while-not_all is_short (cut c).ended (more_of c d).ended long;
  closed =
      ap is_open_cut (cut-append c d)
      ∙ ap (λ (t : Bool). t && fits (more_of c d).unended) (list_all-append is_short (cut c).ended (more_of c d).ended)
      ∙ ap (λ (t : Bool). (t && list_all is_short (more_of c d).ended) && fits (more_of c d).unended) long;
}

closed_by_rest : (c d : List Arrival) → list_all is_short (cut c).ended ≡ true → fits (cut c).unended ≡ false → StaysClosed c d
closed_by_rest c d all long =
    let more = with_rest-too_long (cut c).unended (cut d).ended (cut d).unended long in
    record {
      lines =
          ap short_lines (cut-append c d)
          ∙ take_while-append is_short (cut c).ended (more_of c d).ended all
          ∙ ap (λ (behind_it : List Line). (cut c).ended ++ behind_it) more.lines
          ∙ append-nil (cut c).ended
          ∙ sym (take_while-all is_short (cut c).ended all);
      closed =
          ap is_open_cut (cut-append c d)
          ∙ ap (λ (t : Bool). t && fits (more_of c d).unended) (list_all-append is_short (cut c).ended (more_of c d).ended)
          ∙ ap (λ (t : Bool). (t && list_all is_short (more_of c d).ended) && fits (more_of c d).unended) all
          ∙ more.closes;
    }

pub stays_closed : (c d : List Arrival) → is_open c ≡ false → StaysClosed c d
stays_closed c d closed =
    elim (cases_Bool (list_all is_short (cut c).ended)) [
      | inl all ↦ closed_by_rest c d all (rest_long all)
      | inr long ↦ closed_by_line c d long
    ]
  where
    rest_long : list_all is_short (cut c).ended ≡ true → fits (cut c).unended ≡ false
    rest_long all = sym (ap (λ (t : Bool). t && fits (cut c).unended) all) ∙ closed

-- ---- what more bytes give

pub accepted_points-open : (c d : List Arrival) → is_open c ≡ true → accepted_points (c ++ d) ≡ accepted_points c ++ points (short_lines (more_of c d))
accepted_points-open c d opens = ap points (lines-open c d opens) ∙ points-append (lines c) (short_lines (more_of c d))

pub bad_lines-open : (c d : List Arrival) → is_open c ≡ true → bad_lines (c ++ d) ≡ bad_lines c + bad_count (short_lines (more_of c d))
bad_lines-open c d opens = ap bad_count (lines-open c d opens) ∙ bad_count-append (lines c) (short_lines (more_of c d))

-- they only add datapoints
pub accepted_points-grows : (c d : List Arrival) → (gained : List Datapoint) × (accepted_points (c ++ d) ≡ accepted_points c ++ gained)
accepted_points-grows c d =
    elim (cases_Bool (is_open c)) [
      | inl opens ↦ (points (short_lines (more_of c d)), accepted_points-open c d opens)
      | inr closed ↦ ([], ap points (stays_closed c d closed).lines ∙ sym (append-nil (accepted_points c)))
    ]
