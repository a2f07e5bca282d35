-- What frames give, one after the other.
use Rattle.std.proofs.Common.{◌≡◌, ℕ, ◌+◌, ◌-◌, ◌≤◌, ◌^◌, min, Bool, true, false, cond, List, [], ◌∷◌, ◌++◌, length, take, drop, is_err, refl, sym, ap, ◌∙◌, append_assoc, length-drop, Bor, arith}
use Rattle.std.proofs.lemmas.List.{take_all}
use Rattle.std.proofs.Math.Seq.{take-append-add, drop-append-add}
use Rattle.std.proofs.lemmas.List.Sums.{sum_by-append}
use mir.Val.{bool_byte}
use Rattle.line_text.specs.Datapoint.{Datapoint}
use Rattle.line_text.specs.Line.{count_of}
use Rattle.line_text.specs.Connection.{arrivals}
use Rattle.pickle_subset.specs.Pickle.{rows_of}
use Rattle.pickle_subset.specs.Frame.{Frame, length_of, Partial, TooLong, Whole, Front, front, is_over, Reception, reception}
use Rattle.pickle_subset.specs.declared.frame.Front as read
use Rattle.pickle_subset.specs.declared.frame.Front.TheVariants as answers
use Rattle.pickle_subset.specs.Views.{BeginsSo}
use Rattle.pickle_subset.specs.Accepted.{points, frame_points, frame_bad_rows, bad_pickle_count, bad_rows_count}
use Rattle.pickle_subset.proofs.FrameLemmas.{with_frames, quiet, open_with, reception-whole, reception-too_long, kept_within}
use Rattle.pickle_subset.proofs.RowLemmas.{bool_count}

pub points-append : (a b : List Frame) → points (a ++ b) ≡ points a ++ points b
points-append [] b = refl
points-append (f ∷ a) b = ap (λ (ps : List Datapoint). frame_points f ++ ps) (points-append a b) ∙ sym (append_assoc (frame_points f) (points a) (points b))

pub bad_pickle_count-append : (a b : List Frame) → bad_pickle_count (a ++ b) ≡ bad_pickle_count a + bad_pickle_count b
bad_pickle_count-append a b = sum_by-append (λ f. cond (is_err (rows_of f.pickle)) 1 0) a b

pub bad_rows_count-append : (a b : List Frame) → bad_rows_count (a ++ b) ≡ bad_rows_count a + bad_rows_count b
bad_rows_count-append [] b = omega arith
bad_rows_count-append (f ∷ a) b = omega (arith, bad_rows_count-append a b)

-- ---- a frame at the front

abbrev pub the_frame : List ℕ → ℕ → Frame
the_frame pickle moment = record { pickle = pickle; moment = moment }

pub first_frame : (left pickle rest : List ℕ) (moment : ℕ) → front left ≡ Whole → pickle ≡ drop 4 (take (4 + length_of left) left) → rest ≡ drop (4 + length_of left) left
    → reception (arrivals left moment) ≡ with_frames (the_frame pickle moment ∷ []) (reception (arrivals rest moment))
first_frame left pickle rest moment is pickle_is rest_is =
    reception-whole left moment is
    ∙ ap (λ (p : List ℕ). with_frames (the_frame p moment ∷ []) (reception (arrivals (drop (4 + length_of left) left) moment))) (sym pickle_is)
    ∙ ap (λ (r : List ℕ). with_frames (the_frame pickle moment ∷ []) (reception (arrivals r moment))) (sym rest_is)

pub gained-frame : (f : Frame) (fs gs : List Frame) (out new all : List Datapoint) → gs ≡ f ∷ fs → new ≡ out ++ frame_points f → out ++ points gs ≡ all → new ++ points fs ≡ all
gained-frame f fs gs out new all is added so_far =
    ap (λ (ps : List Datapoint). ps ++ points fs) added
    ∙ append_assoc out (frame_points f) (points fs)
    ∙ sym (ap (λ (hs : List Frame). out ++ points hs) is)
    ∙ so_far

pickle_count-cons : (f : Frame) (fs : List Frame) → bad_pickle_count (f ∷ fs) ≡ cond (is_err (rows_of f.pickle)) 1 0 + bad_pickle_count fs
pickle_count-cons f fs =
    let one : 0 + cond (is_err (rows_of f.pickle)) 1 0 ≡ cond (is_err (rows_of f.pickle)) 1 0 = omega arith in
    bad_pickle_count-append (f ∷ []) fs ∙ ap (λ (n : ℕ). n + bad_pickle_count fs) one

pub pickles-frame : (f : Frame) (fs gs : List Frame) (b : Bool) (n m more all : ℕ) → gs ≡ f ∷ fs → b ≡ is_err (rows_of f.pickle) → m ≡ bool_byte b → more ≡ min (n + m) (2 ^ 64 - 1)
    → count_of (n + bad_pickle_count gs) ≡ count_of all → count_of (more + bad_pickle_count fs) ≡ count_of all
pickles-frame f fs gs b n m more all is bad one add so_far =
    let here = ap bad_pickle_count is ∙ pickle_count-cons f fs in
    let count = one ∙ bool_count b ∙ ap (λ (t : Bool). cond t 1 0) bad in
    omega (arith, here, count, add, so_far)

pub rows-frame : (f : Frame) (fs gs : List Frame) (n m more all : ℕ) → gs ≡ f ∷ fs → m ≡ frame_bad_rows f → more ≡ min (n + m) (2 ^ 64 - 1)
    → count_of (n + bad_rows_count gs) ≡ count_of all → count_of (more + bad_rows_count fs) ≡ count_of all
rows-frame f fs gs n m more all is bad add so_far =
    let here = ap bad_rows_count is in
    omega (arith, here, bad, add, so_far)

-- ---- once no frame is left

pub reception-partial : (left : List ℕ) (moment : ℕ) → front left ≡ Partial → reception (arrivals left moment) ≡ open_with [] left
reception-partial left moment is = quiet [] [] left moment is

pub record Ends (left : List ℕ) (moment : ℕ) (closed : Bool) : Type 0 where
  pub frames : (reception (arrivals left moment)).frames ≡ []
  pub closes : closed ≡ (reception (arrivals left moment)).closed
  pub partial : closed ≡ false → (reception (arrivals left moment)).partial ≡ left

pub Ends-partial : (left : List ℕ) (moment : ℕ) → front left ≡ Partial → Ends left moment false
Ends-partial left moment is =
    let e = reception-partial left moment is in
    record { frames = ap (λ (r : Reception). r.frames) e; closes = sym (ap (λ (r : Reception). r.closed) e); partial = λ _. ap (λ (r : Reception). r.partial) e }

pub Ends-too_long : (left : List ℕ) (moment : ℕ) → front left ≡ TooLong → Ends left moment true
Ends-too_long left moment is =
    let e = reception-too_long left moment is in
    record { frames = e.frames; closes = sym e.closed; partial = λ goes. absurd cc }

ends_at : (left : List ℕ) (moment : ℕ) (f : Front) → front left ≡ f → (f ≡ Whole → ⊥) → Ends left moment (is_over f)
ends_at left moment Partial is other = Ends-partial left moment is
ends_at left moment TooLong is other = Ends-too_long left moment is
ends_at left moment Whole is other = absurd (other refl)

not_whole : (left : List ℕ) (r : read.Front) → BeginsSo [] left r → ((end rest : Bor (List ℕ)) → r ≡ answers.Whole end rest → ⊥) → front left ≡ Whole → ⊥
not_whole left answers.Partial begins other is = cc
not_whole left answers.TooLong begins other is = cc
not_whole left (answers.Whole end rest) begins other is = other end rest refl

pub ends_so : (left : List ℕ) (moment : ℕ) (r : read.Front) → BeginsSo [] left r → ((end rest : Bor (List ℕ)) → r ≡ answers.Whole end rest → ⊥) → Ends left moment (is_over (front left))
ends_so left moment r begins other = ends_at left moment (front left) refl (not_whole left r begins other)

-- ---- the frame that kept bytes begin

-- the bytes after a length, as a slice of all of them
abbrev pub pickle_in : List ℕ → List ℕ
pickle_in bytes = take (length bytes - 4) (drop 4 bytes)

pickle_in-drop : (bytes : List ℕ) → pickle_in bytes ≡ drop 4 bytes
pickle_in-drop bytes = take_all (length bytes - 4) (drop 4 bytes) (omega (arith, length-drop 4 bytes))

-- the first frame, and what the bytes after it give
pub kept_frame : (kept piece end others bytes : List ℕ) (moment k : ℕ) → front kept ≡ Partial → front (kept ++ piece) ≡ Whole → k ≡ 4 + length_of (kept ++ piece)
    → end ≡ take (k - length kept) piece → others ≡ drop (k - length kept) piece → bytes ≡ kept ++ end
    → reception (arrivals (kept ++ piece) moment) ≡ with_frames (the_frame (pickle_in bytes) moment ∷ []) (reception (arrivals others moment))
kept_frame kept piece end others bytes moment k waits is size end_is others_is all =
    let within : length kept ≤ k = omega (arith, size, kept_within kept piece waits is) in
    let split : length kept + (k - length kept) ≡ k = omega arith in
    let pickle_is : pickle_in bytes ≡ drop 4 (take (4 + length_of (kept ++ piece)) (kept ++ piece)) =
    pickle_in-drop bytes ∙ ap (drop 4) all
    ∙ ap (λ (e : List ℕ). drop 4 (kept ++ e)) end_is
    ∙ ap (drop 4) (sym (take-append-add kept piece (k - length kept)) ∙ ap (λ (n : ℕ). take n (kept ++ piece)) (split ∙ size)) in
    let rest_is : others ≡ drop (4 + length_of (kept ++ piece)) (kept ++ piece) =
    others_is ∙ sym (drop-append-add kept piece (k - length kept)) ∙ ap (λ (n : ℕ). drop n (kept ++ piece)) (split ∙ size) in
    first_frame (kept ++ piece) (pickle_in bytes) others moment is pickle_is rest_is

-- the same, where the kept bytes are given as a slice
pub slice_frame : (kept slice piece end others grown bytes : List ℕ) (moment : ℕ) → front kept ≡ Partial → slice ≡ kept → front (slice ++ piece) ≡ Whole
    → end ≡ take (4 + length_of (slice ++ piece) - length slice) piece → others ≡ drop (4 + length_of (slice ++ piece) - length slice) piece
    → grown ≡ kept ++ end → bytes ≡ grown
    → reception (arrivals (kept ++ piece) moment) ≡ with_frames (the_frame (pickle_in bytes) moment ∷ []) (reception (arrivals others moment))
slice_frame kept slice piece end others grown bytes moment waits same is end_is others_is grown_is bytes_is =
    let at = λ (s : List ℕ). 4 + length_of (s ++ piece) in
    let less = ap (λ (s : List ℕ). at s - length s) same in
    kept_frame kept piece end others bytes moment (at kept) waits (ap (λ (s : List ℕ). front (s ++ piece)) (sym same) ∙ is) refl
    (end_is ∙ ap (λ (n : ℕ). take n piece) less) (others_is ∙ ap (λ (n : ℕ). drop n piece) less) (bytes_is ∙ grown_is)

-- a frame that is whole in a piece
pub piece_frame : (piece end others : List ℕ) (moment k : ℕ) → front piece ≡ Whole → k ≡ 4 + length_of piece → end ≡ take k piece → others ≡ drop k piece
    → reception (arrivals piece moment) ≡ with_frames (the_frame (pickle_in end) moment ∷ []) (reception (arrivals others moment))
piece_frame piece end others moment k is size end_is others_is =
    first_frame piece (pickle_in end) others moment is
    (pickle_in-drop end ∙ ap (drop 4) end_is ∙ ap (λ (n : ℕ). drop 4 (take n piece)) size)
    (others_is ∙ ap (λ (n : ℕ). drop n piece) size)

-- what is found of a frame and of those after it

pub first-gained : (f : Frame) (fs gs : List Frame) (out new all : List Datapoint) → gs ≡ f ∷ fs → new ≡ out ++ frame_points f → all ≡ new ++ points fs → all ≡ out ++ points gs
first-gained f fs gs out new all is added others = others ∙ gained-frame f fs gs out new (out ++ points gs) is added refl

pub first-pickles : (f : Frame) (fs gs : List Frame) (b : Bool) (n more : ℕ) → gs ≡ f ∷ fs → b ≡ is_err (rows_of f.pickle) → n ≡ count_of (bad_pickle_count fs)
    → more ≡ count_of (n + cond b 1 0) → more ≡ count_of (bad_pickle_count gs)
first-pickles f fs gs b n more is bad others add =
    let here = ap bad_pickle_count is ∙ pickle_count-cons f fs in
    let one = ap {B = ℕ} (λ (t : Bool). cond t 1 0) bad in
    omega (arith, here, one, others, add)

pub first-rows : (f : Frame) (fs gs : List Frame) (n m more : ℕ) → gs ≡ f ∷ fs → m ≡ frame_bad_rows f → n ≡ count_of (bad_rows_count fs)
    → more ≡ count_of (n + m) → more ≡ count_of (bad_rows_count gs)
first-rows f fs gs n m more is bad others add =
    let here = ap bad_rows_count is in
    omega (arith, here, bad, others, add)
