use Rattle.std.proofs.Common.{◌≡◌, ℕ, List, [], ◌∷◌, ◌++◌, length, Bool, true, false, Result, subst, ap, sym, ◌∙◌, arith}
use Rattle.std.proofs.Math.Seq.{take-length}
use Rattle.std.specs.Prelude.{◌==◌, IfOk}
use Rattle.std.proofs.lemmas.Bool.{eqb-true, false≢true}
use Rattle.std.proofs.lemmas.List.{append-nil, nil_from_length}
use Rattle.std.proofs.lemmas.Result.{IfOk-from_err, IfOk-weaker}
use Rattle.relay_base.proofs.Growth.{take-all_of, take-kept_through}
use Rattle.line_text.specs.Line.{count_of}
use Rattle.line_text.specs.Datapoint.{Datapoint}
use Rattle.line_text.specs.Connection.{arrivals}
use Rattle.line_text.specs.Reader.{closes, rest_after}
use Rattle.pickle_subset.specs.Frame.{Frame, Front, Partial, TooLong, front, Reception, reception}
use Rattle.pickle_subset.specs.Accepted.{points, bad_pickle_count, bad_rows_count}
use Rattle.pickle_subset.proofs.FrameLemmas.{with_frames, reception-too_long}
use Rattle.pickle_subset.proofs.FramesLemmas.{reception-partial, the_frame, pickle_in, slice_frame, first-gained, first-pickles, first-rows}
use Rattle.pickle_subset.proofs.frames.read_piece.Given.{Over}
use Rattle.pickle_subset.proofs.frames.read_piece.Goals as goal

-- what was kept, as a slice, is what was kept
as_kept : (kept slice piece : List ℕ) (f : Front) → slice ≡ kept → front (slice ++ piece) ≡ f → front (kept ++ piece) ≡ f
as_kept kept slice piece f same is = ap (λ (xs : List ℕ). front (xs ++ piece)) (sym same) ∙ is

-- if nothing was kept, all bytes are those of the piece
of_piece : {X E : Type 0} (r : Result X E) (P : X → List ℕ → Type 0) (b : Bool) (n : ℕ) (kept piece : List ℕ) → n ≡ length kept → b ≡ (n == 0) → b ≡ true
    → IfOk r (λ x. P x piece) → IfOk r (λ x. front kept ≡ Partial → P x (kept ++ piece))
of_piece r P b n kept piece size test none holds =
    let empty : kept ≡ [] = nil_from_length kept (sym size ∙ eqb-true n 0 (sym test ∙ none)) in
    subst (λ (k : List ℕ). IfOk r (λ x. front k ≡ Partial → P x (k ++ piece))) (sym empty) (IfOk-weaker r (λ x. P x piece) (λ x. front [] ≡ Partial → P x piece) (λ x is waits. is) holds)

pub returns-then-is_empty-clause-gained : goal.returns-then-is_empty-clause-gained
returns-then-is_empty-clause-gained g c =
    of_piece c.read_frames.result (λ found (bytes : List ℕ). c.read_frames.new.out.items ≡ c.args.out.now.items ++ points (reception (arrivals bytes c.args.moment)).frames)
    c.is_empty.result c.args.rest.now.len c.args.rest.now.items c.args.piece.now c.args.rest.now.ok.0 c.is_empty.ensures c.if-is_empty.true c.read_frames.ensures.gained

pub returns-then-is_empty-clause-bad_pickles : goal.returns-then-is_empty-clause-bad_pickles
returns-then-is_empty-clause-bad_pickles g c =
    of_piece c.read_frames.result (λ found (bytes : List ℕ). found.bad_pickles ≡ count_of (bad_pickle_count (reception (arrivals bytes c.args.moment)).frames))
    c.is_empty.result c.args.rest.now.len c.args.rest.now.items c.args.piece.now c.args.rest.now.ok.0 c.is_empty.ensures c.if-is_empty.true c.read_frames.ensures.bad_pickles

pub returns-then-is_empty-clause-bad_rows : goal.returns-then-is_empty-clause-bad_rows
returns-then-is_empty-clause-bad_rows g c =
    of_piece c.read_frames.result (λ found (bytes : List ℕ). found.bad_rows ≡ count_of (bad_rows_count (reception (arrivals bytes c.args.moment)).frames))
    c.is_empty.result c.args.rest.now.len c.args.rest.now.items c.args.piece.now c.args.rest.now.ok.0 c.is_empty.ensures c.if-is_empty.true c.read_frames.ensures.bad_rows

pub returns-then-is_empty-clause-closed : goal.returns-then-is_empty-clause-closed
returns-then-is_empty-clause-closed g c =
    of_piece c.read_frames.result (λ found (bytes : List ℕ). closes found.rest ≡ (reception (arrivals bytes c.args.moment)).closed)
    c.is_empty.result c.args.rest.now.len c.args.rest.now.items c.args.piece.now c.args.rest.now.ok.0 c.is_empty.ensures c.if-is_empty.true c.read_frames.ensures.closed

pub returns-then-is_empty-clause-partial : goal.returns-then-is_empty-clause-partial
returns-then-is_empty-clause-partial g c =
    let kept = c.args.rest.now.items in
    let partial = (reception (arrivals c.args.piece.now c.args.moment)).partial in
    of_piece c.read_frames.result (λ found (bytes : List ℕ). closes found.rest ≡ false → rest_after kept found.rest ≡ (reception (arrivals bytes c.args.moment)).partial)
    c.is_empty.result c.args.rest.now.len kept c.args.piece.now c.args.rest.now.ok.0 c.is_empty.ensures c.if-is_empty.true
    (IfOk-weaker c.read_frames.result (λ found. closes found.rest ≡ false → (rest : List ℕ) → rest_after rest found.rest ≡ partial) (λ found. closes found.rest ≡ false → rest_after kept found.rest ≡ partial)
    (λ found after goes. after goes kept) c.read_frames.ensures.partial)

-- nothing is gained
none_gained : (out : List Datapoint) (fs : List Frame) → fs ≡ [] → out ≡ out ++ points fs
none_gained out fs none = sym (append-nil out) ∙ ap (λ (gs : List Frame). out ++ points gs) (sym none)

pub returns-in-Partial-clause-gained : goal.returns-in-Partial-clause-gained
returns-in-Partial-clause-gained g c = λ waits.
    let e = reception-partial (c.args.rest.now.items ++ c.args.piece.now) c.args.moment (as_kept c.args.rest.now.items c.as_slice.result.now c.args.piece.now Partial c.as_slice.ensures.value c.in-Partial.ensures) in
    none_gained c.args.out.now.items _ (ap (λ (r : Reception). r.frames) e)

pub returns-in-Partial-clause-bad_pickles : goal.returns-in-Partial-clause-bad_pickles
returns-in-Partial-clause-bad_pickles g c = λ waits.
    let e = reception-partial (c.args.rest.now.items ++ c.args.piece.now) c.args.moment (as_kept c.args.rest.now.items c.as_slice.result.now c.args.piece.now Partial c.as_slice.ensures.value c.in-Partial.ensures) in
    omega (arith, c.nothing_more.ensures.bad_pickles, ap (λ (r : Reception). bad_pickle_count r.frames) e)

pub returns-in-Partial-clause-bad_rows : goal.returns-in-Partial-clause-bad_rows
returns-in-Partial-clause-bad_rows g c = λ waits.
    let e = reception-partial (c.args.rest.now.items ++ c.args.piece.now) c.args.moment (as_kept c.args.rest.now.items c.as_slice.result.now c.args.piece.now Partial c.as_slice.ensures.value c.in-Partial.ensures) in
    omega (arith, c.nothing_more.ensures.bad_rows, ap (λ (r : Reception). bad_rows_count r.frames) e)

pub returns-in-Partial-clause-closed : goal.returns-in-Partial-clause-closed
returns-in-Partial-clause-closed g c = λ waits.
    let e = reception-partial (c.args.rest.now.items ++ c.args.piece.now) c.args.moment (as_kept c.args.rest.now.items c.as_slice.result.now c.args.piece.now Partial c.as_slice.ensures.value c.in-Partial.ensures) in
    ap closes c.nothing_more.ensures.rest ∙ sym (ap (λ (r : Reception). r.closed) e)

pub returns-in-Partial-clause-partial : goal.returns-in-Partial-clause-partial
returns-in-Partial-clause-partial g c = λ waits goes.
    let e = reception-partial (c.args.rest.now.items ++ c.args.piece.now) c.args.moment (as_kept c.args.rest.now.items c.as_slice.result.now c.args.piece.now Partial c.as_slice.ensures.value c.in-Partial.ensures) in
    ap (rest_after c.args.rest.now.items) c.nothing_more.ensures.rest ∙ sym (ap (λ (r : Reception). r.partial) e)

pub returns-in-TooLong-clause-gained : goal.returns-in-TooLong-clause-gained
returns-in-TooLong-clause-gained g c = λ waits.
    let e = reception-too_long (c.args.rest.now.items ++ c.args.piece.now) c.args.moment (as_kept c.args.rest.now.items c.as_slice.result.now c.args.piece.now TooLong c.as_slice.ensures.value c.in-TooLong.ensures) in
    none_gained c.args.out.now.items _ e.frames

pub returns-in-TooLong-clause-bad_pickles : goal.returns-in-TooLong-clause-bad_pickles
returns-in-TooLong-clause-bad_pickles g c = λ waits.
    let e = reception-too_long (c.args.rest.now.items ++ c.args.piece.now) c.args.moment (as_kept c.args.rest.now.items c.as_slice.result.now c.args.piece.now TooLong c.as_slice.ensures.value c.in-TooLong.ensures) in
    omega (arith, c.nothing_more-in-TooLong.ensures.bad_pickles, ap bad_pickle_count e.frames)

pub returns-in-TooLong-clause-bad_rows : goal.returns-in-TooLong-clause-bad_rows
returns-in-TooLong-clause-bad_rows g c = λ waits.
    let e = reception-too_long (c.args.rest.now.items ++ c.args.piece.now) c.args.moment (as_kept c.args.rest.now.items c.as_slice.result.now c.args.piece.now TooLong c.as_slice.ensures.value c.in-TooLong.ensures) in
    omega (arith, c.nothing_more-in-TooLong.ensures.bad_rows, ap bad_rows_count e.frames)

pub returns-in-TooLong-clause-closed : goal.returns-in-TooLong-clause-closed
returns-in-TooLong-clause-closed g c = λ waits.
    let e = reception-too_long (c.args.rest.now.items ++ c.args.piece.now) c.args.moment (as_kept c.args.rest.now.items c.as_slice.result.now c.args.piece.now TooLong c.as_slice.ensures.value c.in-TooLong.ensures) in
    ap closes c.nothing_more-in-TooLong.ensures.rest ∙ sym e.closed

-- what was kept, the frame that it begins, and the frames of all and of what follows it
abbrev kept_in : (g : Over) → goal.After-with_first g → List ℕ
kept_in g c = c.args.rest.now.items

abbrev first_of : (g : Over) → goal.After-with_first g → Frame
first_of g c = the_frame (pickle_in c.deref.result.now) c.args.moment

abbrev all_of : (g : Over) → goal.After-with_first g → Reception
all_of g c = reception (arrivals (kept_in g c ++ c.args.piece.now) c.args.moment)

abbrev left_of : (g : Over) → goal.After-with_first g → Reception
left_of g c = reception (arrivals c.in-Whole.others.now c.args.moment)

whole : (g : Over) (c : goal.After-with_first g) → front (kept_in g c) ≡ Partial → all_of g c ≡ with_frames (first_of g c ∷ []) (left_of g c)
whole g c waits =
    let begins = c.in-Whole.ensures in
    slice_frame (kept_in g c) c.as_slice.result.now c.args.piece.now c.in-Whole.end.now c.in-Whole.others.now c.extend_from_slice.new.self.items c.deref.result.now c.args.moment
    waits c.as_slice.ensures.value begins.0 begins.1 begins.2 c.in_ok-extend_from_slice-in-Whole.ensures.items c.deref.ensures.value

frames_are : (g : Over) (c : goal.After-with_first g) → front (kept_in g c) ≡ Partial → (all_of g c).frames ≡ first_of g c ∷ (left_of g c).frames
frames_are g c waits = ap (λ (r : Reception). r.frames) (whole g c waits)

pub returns-in_ok-found-in-Whole-clause-gained : goal.returns-in_ok-found-in-Whole-clause-gained
returns-in_ok-found-in-Whole-clause-gained g c = λ waits.
    first-gained (first_of g c) (left_of g c).frames (all_of g c).frames c.args.out.now.items c.read_frame.new.out.items c.read_frames-in-Whole.new.out.items (frames_are g c waits)
    c.in_ok-first-in-Whole.ensures.gained c.in_ok-found-in-Whole.ensures.gained

pub returns-in_ok-found-in-Whole-clause-bad_pickles : goal.returns-in_ok-found-in-Whole-clause-bad_pickles
returns-in_ok-found-in-Whole-clause-bad_pickles g c = λ waits.
    first-pickles (first_of g c) (left_of g c).frames (all_of g c).frames c.in_ok-first-in-Whole.first.is_bad c.in_ok-found-in-Whole.found.bad_pickles c.with_first.result.bad_pickles (frames_are g c waits)
    c.in_ok-first-in-Whole.ensures.bad c.in_ok-found-in-Whole.ensures.bad_pickles c.with_first.ensures.bad_pickles

pub returns-in_ok-found-in-Whole-clause-bad_rows : goal.returns-in_ok-found-in-Whole-clause-bad_rows
returns-in_ok-found-in-Whole-clause-bad_rows g c = λ waits.
    first-rows (first_of g c) (left_of g c).frames (all_of g c).frames c.in_ok-found-in-Whole.found.bad_rows c.in_ok-first-in-Whole.first.bad_rows c.with_first.result.bad_rows (frames_are g c waits)
    c.in_ok-first-in-Whole.ensures.bad_rows c.in_ok-found-in-Whole.ensures.bad_rows c.with_first.ensures.bad_rows

pub returns-in_ok-found-in-Whole-clause-closed : goal.returns-in_ok-found-in-Whole-clause-closed
returns-in_ok-found-in-Whole-clause-closed g c = λ waits.
    ap closes c.with_first.ensures.rest ∙ c.in_ok-found-in-Whole.ensures.closed ∙ sym (ap (λ (r : Reception). r.closed) (whole g c waits))

pub returns-in_ok-found-in-Whole-clause-partial : goal.returns-in_ok-found-in-Whole-clause-partial
returns-in_ok-found-in-Whole-clause-partial g c = λ waits goes.
    ap (rest_after (kept_in g c)) c.with_first.ensures.rest
    ∙ c.in_ok-found-in-Whole.ensures.partial (ap closes (sym c.with_first.ensures.rest) ∙ goes) (kept_in g c)
    ∙ sym (ap (λ (r : Reception). r.partial) (whole g c waits))

pub returns-in-TooLong-clause-partial : goal.returns-in-TooLong-clause-partial
returns-in-TooLong-clause-partial g c = λ waits goes. absurd (false≢true (sym goes ∙ ap closes c.nothing_more-in-TooLong.ensures.rest))

pub returns-in_err-extend_from_slice-in-Whole-clause-kept : goal.returns-in_err-extend_from_slice-in-Whole-clause-kept
returns-in_err-extend_from_slice-in-Whole-clause-kept g c = rw c.in_err-extend_from_slice-in-Whole.ensures.items (take-length c.args.rest.now.items)

pub returns-in_err-first-in-Whole-clause-kept : goal.returns-in_err-first-in-Whole-clause-kept
returns-in_err-first-in-Whole-clause-kept g c = rw c.in_ok-extend_from_slice-in-Whole.ensures.items (take-all_of c.args.rest.now.items c.in-Whole.end.now)

pub returns-in_err-found-in-Whole-clause-kept : goal.returns-in_err-found-in-Whole-clause-kept
returns-in_err-found-in-Whole-clause-kept g c = rw c.in_ok-extend_from_slice-in-Whole.ensures.items (take-all_of c.args.rest.now.items c.in-Whole.end.now)

pub returns-in_err-found-in-Whole-clause-kept_out : goal.returns-in_err-found-in-Whole-clause-kept_out
returns-in_err-found-in-Whole-clause-kept_out g c =
    take-kept_through c.args.out.now.items c.read_frame.new.out.items c.read_frames-in-Whole.new.out.items c.read_frame.ensures.kept c.read_frames-in-Whole.ensures.kept

pub returns-in_ok-found-in-Whole-clause-kept : goal.returns-in_ok-found-in-Whole-clause-kept
returns-in_ok-found-in-Whole-clause-kept g c = rw c.in_ok-extend_from_slice-in-Whole.ensures.items (take-all_of c.args.rest.now.items c.in-Whole.end.now)

pub returns-in_ok-found-in-Whole-clause-kept_out : goal.returns-in_ok-found-in-Whole-clause-kept_out
returns-in_ok-found-in-Whole-clause-kept_out g c =
    take-kept_through c.args.out.now.items c.read_frame.new.out.items c.read_frames-in-Whole.new.out.items c.in_ok-first-in-Whole.ensures.kept c.in_ok-found-in-Whole.ensures.kept

pub returns-in_err-extend_from_slice-in-Whole-clause-bad_pickles : goal.returns-in_err-extend_from_slice-in-Whole-clause-bad_pickles
returns-in_err-extend_from_slice-in-Whole-clause-bad_pickles g c = IfOk-from_err _ _ c.from_residual.ensures.0

pub returns-in_err-extend_from_slice-in-Whole-clause-bad_rows : goal.returns-in_err-extend_from_slice-in-Whole-clause-bad_rows
returns-in_err-extend_from_slice-in-Whole-clause-bad_rows g c = IfOk-from_err _ _ c.from_residual.ensures.0

pub returns-in_err-extend_from_slice-in-Whole-clause-closed : goal.returns-in_err-extend_from_slice-in-Whole-clause-closed
returns-in_err-extend_from_slice-in-Whole-clause-closed g c = IfOk-from_err _ _ c.from_residual.ensures.0

pub returns-in_err-extend_from_slice-in-Whole-clause-partial : goal.returns-in_err-extend_from_slice-in-Whole-clause-partial
returns-in_err-extend_from_slice-in-Whole-clause-partial g c = IfOk-from_err _ _ c.from_residual.ensures.0

pub returns-in_err-first-in-Whole-clause-bad_pickles : goal.returns-in_err-first-in-Whole-clause-bad_pickles
returns-in_err-first-in-Whole-clause-bad_pickles g c = IfOk-from_err _ _ c.from_residual-in_err-first-in-Whole.ensures.0

pub returns-in_err-first-in-Whole-clause-bad_rows : goal.returns-in_err-first-in-Whole-clause-bad_rows
returns-in_err-first-in-Whole-clause-bad_rows g c = IfOk-from_err _ _ c.from_residual-in_err-first-in-Whole.ensures.0

pub returns-in_err-first-in-Whole-clause-closed : goal.returns-in_err-first-in-Whole-clause-closed
returns-in_err-first-in-Whole-clause-closed g c = IfOk-from_err _ _ c.from_residual-in_err-first-in-Whole.ensures.0

pub returns-in_err-first-in-Whole-clause-partial : goal.returns-in_err-first-in-Whole-clause-partial
returns-in_err-first-in-Whole-clause-partial g c = IfOk-from_err _ _ c.from_residual-in_err-first-in-Whole.ensures.0

pub returns-in_err-found-in-Whole-clause-bad_pickles : goal.returns-in_err-found-in-Whole-clause-bad_pickles
returns-in_err-found-in-Whole-clause-bad_pickles g c = IfOk-from_err _ _ c.from_residual-in_err-found-in-Whole.ensures.0

pub returns-in_err-found-in-Whole-clause-bad_rows : goal.returns-in_err-found-in-Whole-clause-bad_rows
returns-in_err-found-in-Whole-clause-bad_rows g c = IfOk-from_err _ _ c.from_residual-in_err-found-in-Whole.ensures.0

pub returns-in_err-found-in-Whole-clause-closed : goal.returns-in_err-found-in-Whole-clause-closed
returns-in_err-found-in-Whole-clause-closed g c = IfOk-from_err _ _ c.from_residual-in_err-found-in-Whole.ensures.0

pub returns-in_err-found-in-Whole-clause-partial : goal.returns-in_err-found-in-Whole-clause-partial
returns-in_err-found-in-Whole-clause-partial g c = IfOk-from_err _ _ c.from_residual-in_err-found-in-Whole.ensures.0
