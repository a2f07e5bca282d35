-- Pickles in frames are read again.
use Rattle.std.proofs.Common.{◌≡◌, ℕ, ◌+◌, ◌≤◌, List, [], ◌∷◌, ◌++◌, length, map, take, drop, refl, sym, ap, ◌∙◌, append_assoc, arith}
use Rattle.std.specs.List.{flat_map, AllByRecursion}
use Rattle.std.proofs.lemmas.List.{length-append, take_at, drop_at}
use Rattle.std.proofs.lemmas.List.Concat.{flat_map-cons}
use Rattle.byteorder.specs.Endian.{big_bytes}
use Rattle.byteorder.specs.Numbers.{big_number-reads_back, length-bytes_high_first}
use Rattle.line_text.specs.Connection.{arrivals}
use Rattle.pickle_subset.specs.Frame.{Frame, length_of, Whole, front, Reception, reception, frames}
use Rattle.pickle_subset.specs.Laws.{frame_of, the_frame, Fits}
use Rattle.pickle_subset.proofs.FrameLemmas.{with_frames, front-whole}
use Rattle.pickle_subset.proofs.FramesLemmas.{first_frame}

-- a framed pickle at the front, whatever follows it
framed_first : (pickle rest : List ℕ) (moment : ℕ) → length pickle ≤ 1048576 → reception (arrivals (frame_of pickle ++ rest) moment) ≡ with_frames (the_frame moment pickle ∷ []) (reception (arrivals rest moment))
framed_first pickle rest moment fits =
    let head = big_bytes 4 (length pickle) in
    let len : length head ≡ 4 = length-bytes_high_first 4 (length pickle) in
    let regroup : frame_of pickle ++ rest ≡ head ++ (pickle ++ rest) = append_assoc head pickle rest in
    let says : length_of (frame_of pickle ++ rest) ≡ length pickle = ap length_of regroup ∙ big_number-reads_back 4 (length pickle) (pickle ++ rest) (omega arith) in
    let size : length (frame_of pickle) ≡ 4 + length_of (frame_of pickle ++ rest) = omega (arith, says, len, length-append head pickle) in
    let long : length (frame_of pickle ++ rest) ≡ length (frame_of pickle) + length rest = length-append (frame_of pickle) rest in
    let whole : front (frame_of pickle ++ rest) ≡ Whole = front-whole (frame_of pickle ++ rest) (omega (arith, long, size)) (omega (arith, says)) (omega (arith, long, size)) in
    let body : pickle ≡ drop 4 (take (4 + length_of (frame_of pickle ++ rest)) (frame_of pickle ++ rest)) =
    sym (ap (drop 4) (take_at (frame_of pickle) rest (4 + length_of (frame_of pickle ++ rest)) size) ∙ drop_at head pickle 4 len) in
    let after : rest ≡ drop (4 + length_of (frame_of pickle ++ rest)) (frame_of pickle ++ rest) = sym (drop_at (frame_of pickle) rest (4 + length_of (frame_of pickle ++ rest)) size) in
    first_frame (frame_of pickle ++ rest) pickle rest moment whole body after

pub frames-framed : (pickles : List (List ℕ)) (moment : ℕ) → AllByRecursion Fits pickles → frames (arrivals (flat_map frame_of pickles) moment) ≡ map (the_frame moment) pickles
frames-framed [] moment fits = refl
frames-framed (p ∷ pickles) moment fits =
    ap (λ (bytes : List ℕ). frames (arrivals bytes moment)) (flat_map-cons frame_of p pickles)
    ∙ ap (λ (r : Reception). r.frames) (framed_first p (flat_map frame_of pickles) moment fits.0)
    ∙ ap (λ (fs : List Frame). the_frame moment p ∷ fs) (frames-framed pickles moment fits.1)
