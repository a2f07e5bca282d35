-- A connection that goes on at another reader.
use Rattle.std.proofs.Common.{◌≡◌, ℕ, false, List, [], ◌++◌, refl, ap, sym, ◌∙◌}
use Rattle.line_text.specs.Connection.{Arrival, arrivals}
use Rattle.pickle_subset.specs.Frame.{Reception, nothing, receive, reception, frames, is_closed}
use Rattle.pickle_subset.specs.Accepted.{points, accepted_points}
use Rattle.pickle_subset.specs.Laws.{ReadsOn}
use Rattle.pickle_subset.proofs.FeedLemmas.{same_reception}
use Rattle.pickle_subset.proofs.FrameLemmas.{with_frames, open_with, receive-append, receive-prefixed, quiet, reception-waits}
use Rattle.pickle_subset.proofs.FramesLemmas.{points-append}

-- a reader that was fed what was kept has kept the same
reception-read_on : (c d : List Arrival) (moment : ℕ) → is_closed c ≡ false → reception (arrivals (reception c).partial moment ++ d) ≡ receive (open_with [] (reception c).partial) d
reception-read_on c d moment goes =
    receive-append nothing (arrivals (reception c).partial moment) d
    ∙ ap (λ (r : Reception). receive r d) (quiet [] [] (reception c).partial moment (reception-waits c goes))

-- so the whole is the frames of the first, and then those of the other
reception-both : (c d : List Arrival) (moment : ℕ) → is_closed c ≡ false → reception (c ++ d) ≡ with_frames (frames c) (reception (arrivals (reception c).partial moment ++ d))
reception-both c d moment goes =
    receive-append nothing c d
    ∙ ap (λ (r : Reception). receive r d) (same_reception (reception c) (reception c).partial refl goes)
    ∙ receive-prefixed (frames c) (open_with [] (reception c).partial) d
    ∙ ap (with_frames (frames c)) (sym (reception-read_on c d moment goes))

pub reads_on : (c d : List Arrival) (moment : ℕ) → is_closed c ≡ false → ReadsOn c d moment
reads_on c d moment goes =
    let both = reception-both c d moment goes in
    let other = frames (arrivals (reception c).partial moment ++ d) in
    record {
      frames = ap (λ (r : Reception). r.frames) both;
      accepted_points = ap (λ (r : Reception). points r.frames) both ∙ points-append (frames c) other;
      closed = ap (λ (r : Reception). r.closed) both;
    }
