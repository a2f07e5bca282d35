-- What a reader represents after a piece.
use Rattle.std.proofs.Common.{◌≡◌, ℕ, ◌+◌, ◌-◌, ◌^◌, min, Bool, true, false, ◌||◌, List, [], ◌++◌, refl, ap, sym, ◌∙◌, arith}
use Rattle.std.proofs.lemmas.Bool.{both_ways}
use Rattle.std.proofs.lemmas.List.{append-nil}
use Rattle.line_text.specs.Datapoint.{Datapoint}
use Rattle.line_text.specs.Line.{count_of}
use Rattle.line_text.specs.Connection.{Arrival, arrivals}
use Rattle.line_text.specs.Reader.{GainsAlike, CountsMore, closes, rest_after}
use Rattle.line_text.specs.declared.found_lines.NextRest.TheVariants.{Closed}
use Rattle.pickle_subset.specs.Frame.{Frame, front, Partial, Reception, nothing, receive, reception, frames, is_closed}
use Rattle.pickle_subset.specs.Accepted.{points, bad_pickle_count, bad_rows_count, accepted_points, bad_pickles, bad_rows}
use Rattle.pickle_subset.specs.Reader.{ReaderModel, Represents, GivesNoMore, model_after}
use Rattle.pickle_subset.specs.declared.frames.FoundFrames.{FoundFrames}
use Rattle.pickle_subset.proofs.FrameLemmas.{with_frames, open_with, receive-append, receive-closed, receive-prefixed, continued, reception-waits}
use Rattle.pickle_subset.proofs.FramesLemmas.{points-append, bad_pickle_count-append, bad_rows_count-append}

-- ---- a closed reader

reception-stays : (c d : List Arrival) → is_closed c ≡ true → reception (c ++ d) ≡ reception c
reception-stays c d closed = receive-append nothing c d ∙ receive-closed (reception c) d closed

closed_of : (s : ReaderModel) (c : List Arrival) → s.closed ≡ true → Represents s c → is_closed c ≡ true
closed_of s c closed represents = sym represents.closed ∙ closed

pub Represents-closed : (s : ReaderModel) (c d : List Arrival) → s.closed ≡ true → Represents s c → Represents s (c ++ d)
Represents-closed s c d closed represents =
    let same = reception-stays c d (closed_of s c closed represents) in
    record {
      rest = λ opens. absurd (both_ways (is_closed (c ++ d)) opens (ap (λ (r : Reception). r.closed) same ∙ closed_of s c closed represents));
      closed = represents.closed ∙ sym (ap (λ (r : Reception). r.closed) same);
      bad_pickles = represents.bad_pickles ∙ sym (ap (λ (r : Reception). count_of (bad_pickle_count r.frames)) same);
      bad_rows = represents.bad_rows ∙ sym (ap (λ (r : Reception). count_of (bad_rows_count r.frames)) same);
    }

-- it does not change
pub Represents-closed_after : (s : ReaderModel) (found : FoundFrames) (c d : List Arrival) → s.closed ≡ true → Represents s c
    → found.rest ≡ Closed → found.bad_pickles ≡ 0 → found.bad_rows ≡ 0 → Represents (model_after s found) (c ++ d)
Represents-closed_after s found c d closed represents ends pickles rows =
    let stays = Represents-closed s c d closed represents in
    record {
      rest = λ opens. ap (rest_after s.rest) ends ∙ stays.rest opens;
      closed = ap (λ (t : Bool). t || closes found.rest) closed ∙ sym closed ∙ stays.closed;
      bad_pickles = omega (arith, stays.bad_pickles, pickles);
      bad_rows = omega (arith, stays.bad_rows, rows);
    }

pub bad_pickles-closed : (s : ReaderModel) (c d : List Arrival) → s.closed ≡ true → Represents s c
    → CountsMore 0 (bad_pickles c) (bad_pickles (c ++ d))
bad_pickles-closed s c d closed represents =
    let same = ap (λ (r : Reception). bad_pickle_count r.frames) (reception-stays c d (closed_of s c closed represents)) in
    (0, refl, omega (arith, same))

pub bad_rows-closed : (s : ReaderModel) (c d : List Arrival) → s.closed ≡ true → Represents s c
    → CountsMore 0 (bad_rows c) (bad_rows (c ++ d))
bad_rows-closed s c d closed represents =
    let same = ap (λ (r : Reception). bad_rows_count r.frames) (reception-stays c d (closed_of s c closed represents)) in
    (0, refl, omega (arith, same))

-- nothing more is read
pub gives_no_more : (c : List Arrival) → is_closed c ≡ true → GivesNoMore c
gives_no_more c shut = record {
  closed = λ more. ap (λ (r : Reception). r.closed) (reception-stays c more shut) ∙ shut;
  accepted_points = λ more. ap (λ (r : Reception). points r.frames) (reception-stays c more shut);
  bad_pickles = λ more. ap (λ (r : Reception). bad_pickle_count r.frames) (reception-stays c more shut);
  bad_rows = λ more. ap (λ (r : Reception). bad_rows_count r.frames) (reception-stays c more shut);
}

-- of a reader that moved on over what it found, and is closed then
pub GivesNoMore-moved : (old kept new : ReaderModel) (found : FoundFrames) (c : List Arrival) → new ≡ model_after kept found → kept ≡ old
    → Represents (model_after old found) c → new.closed ≡ true → GivesNoMore c
GivesNoMore-moved old kept new found c moved same represents closed =
    gives_no_more c (sym represents.closed ∙ sym (ap (λ (s : ReaderModel). s.closed) (moved ∙ ap (λ (s : ReaderModel). model_after s found) same)) ∙ closed)

pub gained-closed : (s : ReaderModel) (c d : List Arrival) (out : List Datapoint) → s.closed ≡ true → Represents s c → GainsAlike out out (accepted_points c) (accepted_points (c ++ d))
gained-closed s c d out closed represents =
    ([], sym (append-nil out), ap (λ (r : Reception). points r.frames) (reception-stays c d (closed_of s c closed represents)) ∙ sym (append-nil (accepted_points c)))

-- ---- an open reader

pub same_reception : (r : Reception) (rest : List ℕ) → rest ≡ r.partial → r.closed ≡ false → r ≡ with_frames r.frames (open_with [] rest)
same_reception r rest is goes =
    ap (λ (b : Bool). record { frames = r.frames; partial = r.partial; closed = b }) goes
    ∙ ap (λ (p : List ℕ). record { frames = r.frames; partial = p; closed = false }) (sym is)
    ∙ ap (λ (fs : List Frame). record { frames = fs; partial = rest; closed = false }) (sym (append-nil r.frames))

-- what a connection is after a piece: its frames before, and those of the rest and the piece
pub reception-more : (s : ReaderModel) (c : List Arrival) (piece : List ℕ) (moment : ℕ) → s.closed ≡ false → Represents s c
    → reception (c ++ arrivals piece moment) ≡ with_frames (frames c) (reception (arrivals (s.rest ++ piece) moment))
reception-more s c piece moment goes represents =
    let opens : is_closed c ≡ false = sym represents.closed ∙ goes in
    let rest = represents.rest opens in
    let waits : front s.rest ≡ Partial = ap front rest ∙ reception-waits c opens in
    receive-append nothing c (arrivals piece moment)
    ∙ ap (λ (r : Reception). receive r (arrivals piece moment)) (same_reception (reception c) s.rest rest opens)
    ∙ receive-prefixed (frames c) (open_with [] s.rest) (arrivals piece moment)
    ∙ ap (with_frames (frames c)) (continued s.rest piece moment waits)

pub Represents-open : (s new : ReaderModel) (c : List Arrival) (piece : List ℕ) (moment : ℕ) → s.closed ≡ false → Represents s c
    → (new.closed ≡ false → new.rest ≡ (reception (arrivals (s.rest ++ piece) moment)).partial)
    → new.closed ≡ (reception (arrivals (s.rest ++ piece) moment)).closed
    → new.bad_pickles ≡ min (s.bad_pickles + count_of (bad_pickle_count (reception (arrivals (s.rest ++ piece) moment)).frames)) (2 ^ 64 - 1)
    → new.bad_rows ≡ min (s.bad_rows + count_of (bad_rows_count (reception (arrivals (s.rest ++ piece) moment)).frames)) (2 ^ 64 - 1)
    → Represents new (c ++ arrivals piece moment)
Represents-open s new c piece moment goes represents rest closed pickles rows =
    let total = reception (arrivals (s.rest ++ piece) moment) in
    let more = reception-more s c piece moment goes represents in
    let closes : new.closed ≡ is_closed (c ++ arrivals piece moment) = closed ∙ sym (ap (λ (r : Reception). r.closed) more) in
    let more_pickles : bad_pickles (c ++ arrivals piece moment) ≡ bad_pickles c + bad_pickle_count total.frames =
    ap (λ (r : Reception). bad_pickle_count r.frames) more ∙ bad_pickle_count-append (frames c) total.frames in
    let more_rows : bad_rows (c ++ arrivals piece moment) ≡ bad_rows c + bad_rows_count total.frames =
    ap (λ (r : Reception). bad_rows_count r.frames) more ∙ bad_rows_count-append (frames c) total.frames in
    record {
      rest = λ opens. rest (closes ∙ opens) ∙ sym (ap (λ (r : Reception). r.partial) more);
      closed = closes;
      bad_pickles = omega (arith, pickles, represents.bad_pickles, more_pickles);
      bad_rows = omega (arith, rows, represents.bad_rows, more_rows);
    }

pub gained-open : (s : ReaderModel) (c : List Arrival) (piece : List ℕ) (moment : ℕ) (old new : List Datapoint) → s.closed ≡ false → Represents s c
    → new ≡ old ++ points (reception (arrivals (s.rest ++ piece) moment)).frames
    → GainsAlike old new (accepted_points c) (accepted_points (c ++ arrivals piece moment))
gained-open s c piece moment old new goes represents added =
    let total = reception (arrivals (s.rest ++ piece) moment) in
    (points total.frames, added, ap (λ (r : Reception). points r.frames) (reception-more s c piece moment goes represents) ∙ points-append (frames c) total.frames)

-- what it keeps is less than a frame
pub waits-open : (s : ReaderModel) (c : List Arrival) → s.closed ≡ false → Represents s c → front s.rest ≡ Partial
waits-open s c goes represents =
    let opens : is_closed c ≡ false = sym represents.closed ∙ goes in
    ap front (represents.rest opens) ∙ reception-waits c opens

pub Represents-open_after : (s : ReaderModel) (found : FoundFrames) (c : List Arrival) (piece : List ℕ) (moment : ℕ) → s.closed ≡ false → Represents s c
    → (closes found.rest ≡ false → rest_after s.rest found.rest ≡ (reception (arrivals (s.rest ++ piece) moment)).partial)
    → closes found.rest ≡ (reception (arrivals (s.rest ++ piece) moment)).closed
    → found.bad_pickles ≡ count_of (bad_pickle_count (reception (arrivals (s.rest ++ piece) moment)).frames)
    → found.bad_rows ≡ count_of (bad_rows_count (reception (arrivals (s.rest ++ piece) moment)).frames)
    → Represents (model_after s found) (c ++ arrivals piece moment)
Represents-open_after s found c piece moment goes represents partial closed pickles rows =
    let shuts : s.closed || closes found.rest ≡ closes found.rest = ap (λ (t : Bool). t || closes found.rest) goes in
    Represents-open s (model_after s found) c piece moment goes represents
    (λ opens. partial (sym shuts ∙ opens))
    (shuts ∙ closed)
    (ap (λ (n : ℕ). min (s.bad_pickles + n) (2 ^ 64 - 1)) pickles)
    (ap (λ (n : ℕ). min (s.bad_rows + n) (2 ^ 64 - 1)) rows)

-- a count of frames that is a sum over them
pub counts-open : (count : List Frame → ℕ) → ((a b : List Frame) → count (a ++ b) ≡ count a + count b)
    → (s : ReaderModel) (c : List Arrival) (piece : List ℕ) (moment reported : ℕ) → s.closed ≡ false → Represents s c
    → reported ≡ count_of (count (reception (arrivals (s.rest ++ piece) moment)).frames)
    → CountsMore reported (count (frames c)) (count (frames (c ++ arrivals piece moment)))
counts-open count sums s c piece moment reported goes represents is =
    let total = reception (arrivals (s.rest ++ piece) moment) in
    (count total.frames, is, ap (λ (r : Reception). count r.frames) (reception-more s c piece moment goes represents) ∙ sums (frames c) total.frames)

-- ---- more bytes only add datapoints

pub accepted_points-grows : (c d : List Arrival) → (gained : List Datapoint) × (accepted_points (c ++ d) ≡ accepted_points c ++ gained)
accepted_points-grows c d = (
  points (receive (record (reception c) { frames = [] }) d).frames,
  ap (λ (r : Reception). points r.frames) (receive-append nothing c d ∙ ap (λ (r : Reception). receive r d) (apart (reception c)) ∙ receive-prefixed (frames c) (record (reception c) { frames = [] }) d)
      ∙ points-append (frames c) (receive (record (reception c) { frames = [] }) d).frames,
)
  where
    apart : (r : Reception) → r ≡ with_frames r.frames (record r { frames = [] })
    apart r = ap (λ (fs : List Frame). record r { frames = fs }) (sym (append-nil r.frames))
