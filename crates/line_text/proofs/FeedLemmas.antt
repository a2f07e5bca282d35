-- What a reader represents after a piece.
use Rattle.std.proofs.Common.{◌≡◌, ℕ, ◌+◌, ◌-◌, ◌^◌, min, Bool, true, false, not, ◌||◌, refl, arith, List, [], ◌++◌, ap, sym, ◌∙◌}
use Rattle.std.proofs.lemmas.Bool.{not-false, not-true, both_ways}
use Rattle.std.proofs.lemmas.List.{append-nil}
use Rattle.line_text.specs.Datapoint.{Datapoint}
use Rattle.line_text.specs.Line.{points, bad_count, count_of}
use Rattle.line_text.specs.Connection.{Arrival, Texts, arrivals, is_open, is_closed, accepted_points, bad_lines}
use Rattle.line_text.specs.Reader.{ReaderModel, Represents, GainsAlike, GivesNoMore, CountsMore, model_after, rest_after, closes, continuation, short_lines, is_open_cut}
use Rattle.line_text.specs.declared.found_lines.FoundLines.{FoundLines}
use Rattle.line_text.specs.declared.found_lines.NextRest.TheVariants.{Closed}
use Rattle.line_text.proofs.LineLemmas.{count_of-add}
use Rattle.line_text.proofs.ConnectionLemmas.{more_of, is_open-open, unended-append, accepted_points-open, bad_lines-open, stays_closed}

-- ---- a closed reader

is_closed-stays : (s : ReaderModel) (c : List Arrival) → s.closed ≡ true → Represents s c → is_open c ≡ false
is_closed-stays s c closed represents = not-true (is_open c) (sym represents.closed ∙ closed)

pub Represents-closed : (s : ReaderModel) (c d : List Arrival) → s.closed ≡ true → Represents s c → Represents s (c ++ d)
Represents-closed s c d closed represents =
    let shut = is_closed-stays s c closed represents in
    let stays = stays_closed c d shut in
    record {
      rest = λ opens. absurd (both_ways (is_open (c ++ d)) stays.closed opens);
      closed = represents.closed ∙ ap not (shut ∙ sym stays.closed);
      bad = represents.bad ∙ ap (λ lines. count_of (bad_count lines)) (sym stays.lines);
    }

-- it does not change
pub Represents-closed_after : (s : ReaderModel) (c d : List Arrival) → s.closed ≡ true → Represents s c
    → Represents (model_after s (record { bad_lines = 0; rest = Closed })) (c ++ d)
Represents-closed_after s c d closed represents =
    let stays = Represents-closed s c d closed represents in
    record {
      rest = stays.rest;
      closed = ap (λ (t : Bool). t || true) closed ∙ sym closed ∙ stays.closed;
      bad = omega (arith, stays.bad);
    }

pub bad-closed : (s : ReaderModel) (c d : List Arrival) → s.closed ≡ true → Represents s c → CountsMore 0 (bad_lines c) (bad_lines (c ++ d))
bad-closed s c d closed represents =
    let same = ap bad_count (stays_closed c d (is_closed-stays s c closed represents)).lines in
    (0, refl, omega (arith, same))

-- nothing more is read
pub gives_no_more : (c : List Arrival) → is_closed c ≡ true → GivesNoMore c
gives_no_more c closed =
    let shut = not-true (is_open c) closed in
    record {
      closed = λ more. ap not (stays_closed c more shut).closed;
      accepted_points = λ more. ap points (stays_closed c more shut).lines;
      bad = λ more. ap bad_count (stays_closed c more shut).lines;
    }

-- of a reader that moved on over what it found, and is closed then
pub GivesNoMore-moved : (old kept new : ReaderModel) (found : FoundLines) (c : List Arrival) → new ≡ model_after kept found → kept ≡ old
    → Represents (model_after old found) c → new.closed ≡ true → GivesNoMore c
GivesNoMore-moved old kept new found c moved same represents closed =
    gives_no_more c (sym represents.closed ∙ sym (ap (λ (s : ReaderModel). s.closed) (moved ∙ ap (λ (s : ReaderModel). model_after s found) same)) ∙ closed)

pub gained-closed : (s : ReaderModel) (c d : List Arrival) (out : List Datapoint) → s.closed ≡ true → Represents s c → GainsAlike out out (accepted_points c) (accepted_points (c ++ d))
gained-closed s c d out closed represents =
    let stays = stays_closed c d (is_closed-stays s c closed represents) in
    ([], sym (append-nil out), ap points stays.lines ∙ sym (append-nil (accepted_points c)))

-- ---- an open reader

opens_of : (s : ReaderModel) (c : List Arrival) → s.closed ≡ false → Represents s c → is_open c ≡ true
opens_of s c goes represents = not-false (is_open c) (sym represents.closed ∙ goes)

continuation-is : (s : ReaderModel) (c : List Arrival) (piece : List ℕ) (moment : ℕ) → s.closed ≡ false → Represents s c → continuation s.rest piece moment ≡ more_of c (arrivals piece moment)
continuation-is s c piece moment goes represents =
    ap (λ (rest : List ℕ). continuation rest piece moment) (represents.rest (opens_of s c goes represents))

pub Represents-open : (s new : ReaderModel) (c : List Arrival) (piece : List ℕ) (moment : ℕ) → s.closed ≡ false → Represents s c
    → (is_open_cut (continuation s.rest piece moment) ≡ true → new.rest ≡ (continuation s.rest piece moment).unended)
    → new.closed ≡ not (is_open_cut (continuation s.rest piece moment))
    → new.bad ≡ min (s.bad + count_of (bad_count (short_lines (continuation s.rest piece moment)))) (2 ^ 64 - 1)
    → Represents new (c ++ arrivals piece moment)
Represents-open s new c piece moment goes represents rest closed bad =
    let d = arrivals piece moment in
    let opens = opens_of s c goes represents in
    let same = continuation-is s c piece moment goes represents in
    let opens_more = ap is_open_cut same ∙ sym (is_open-open c d opens) in
    record {
      rest = λ on. rest (opens_more ∙ on) ∙ ap (λ (k : Texts). k.unended) same ∙ sym (unended-append c d);
      closed = closed ∙ ap not opens_more;
      bad =
          bad
          ∙ ap (λ (n : ℕ). min (n + count_of (bad_count (short_lines (continuation s.rest piece moment)))) (2 ^ 64 - 1)) represents.bad
          ∙ count_of-add (bad_lines c) (bad_count (short_lines (continuation s.rest piece moment)))
          ∙ ap (λ (k : Texts). count_of (bad_lines c + bad_count (short_lines k))) same
          ∙ ap count_of (sym (bad_lines-open c d opens));
    }

pub gained-open : (s : ReaderModel) (c : List Arrival) (piece : List ℕ) (moment : ℕ) (old new : List Datapoint) → s.closed ≡ false → Represents s c
    → new ≡ old ++ points (short_lines (continuation s.rest piece moment))
    → GainsAlike old new (accepted_points c) (accepted_points (c ++ arrivals piece moment))
gained-open s c piece moment old new goes represents gained = (
  points (short_lines (continuation s.rest piece moment)),
  gained,
  accepted_points-open c (arrivals piece moment) (opens_of s c goes represents) ∙ ap (λ (k : Texts). accepted_points c ++ points (short_lines k)) (sym (continuation-is s c piece moment goes represents)),
)

-- a reader that moves on
pub Represents-open_after : (s : ReaderModel) (found : FoundLines) (c : List Arrival) (piece : List ℕ) (moment : ℕ) → s.closed ≡ false → Represents s c
    → (is_open_cut (continuation s.rest piece moment) ≡ true → rest_after s.rest found.rest ≡ (continuation s.rest piece moment).unended)
    → closes found.rest ≡ not (is_open_cut (continuation s.rest piece moment))
    → found.bad_lines ≡ count_of (bad_count (short_lines (continuation s.rest piece moment)))
    → Represents (model_after s found) (c ++ arrivals piece moment)
Represents-open_after s found c piece moment goes represents rest closed bad =
    Represents-open s (model_after s found) c piece moment goes represents rest
    (ap (λ (t : Bool). t || closes found.rest) goes ∙ closed)
    (ap (λ (n : ℕ). min (s.bad + n) (2 ^ 64 - 1)) bad)

pub bad-open : (s : ReaderModel) (c : List Arrival) (piece : List ℕ) (moment reported : ℕ) → s.closed ≡ false → Represents s c
    → reported ≡ count_of (bad_count (short_lines (continuation s.rest piece moment)))
    → CountsMore reported (bad_lines c) (bad_lines (c ++ arrivals piece moment))
bad-open s c piece moment reported goes represents is = (
  bad_count (short_lines (continuation s.rest piece moment)),
  is,
  bad_lines-open c (arrivals piece moment) (opens_of s c goes represents)
      ∙ ap (λ (k : Texts). bad_lines c + bad_count (short_lines k)) (sym (continuation-is s c piece moment goes represents)),
)
