-- Two destinations, computed from the definitions: names that begin with `a.` go to the first, all others to the second.
use Rattle.std.proofs.Common.{◌≡◌, ℕ, List, [], ◌∷◌, ◌++◌, refl, if◌then◌else◌, ◌||◌, ◌&&◌, ◌==◌, Some, zero, suc, pos}
use Rattle.std.specs.Prelude.{codes}
use Rattle.std.specs.Str.{is_utf8, chars}
use Rattle.std.specs.Char.{encode_utf8}
use Rattle.std.specs.Fmt.{digits}
use Rattle.line_text.specs.Value.{units_of_one}
use Rattle.dest_queue.specs.Queue.{empty_queue}
use Rattle.reader_core.specs.declared.kind.ReaderKind.TheVariants.{Line}
use Rattle.reader_core.specs.Configuration.{Configuration}
use Rattle.relay_core.specs.World.{WorldState, RunEvent, Piece, End, Offer, Take, Up, Wrote, Down, fresh_world, waiting_of, is_allowed, after}
use Rattle.relay_core.specs.Run.{Run, reader_in, dest_in, points_in}
use Rattle.relay_core.specs.Agreement.{AgreesAt}
use Rattle.relay_core.specs.FirstPath.{line_reading}

abbrev route : List ℕ → List ℕ
route [] = 1 ∷ []
route (first ∷ []) = 1 ∷ []
route (first ∷ second ∷ others) = if (first == 97 || first == 65) && second == 46 then 0 ∷ [] else 1 ∷ []

abbrev configuration : Configuration
configuration = record { rewrite = λ name. Some name; route = route; destinations = 2; size = 1; limit = 500 }

-- ---- one reader: the second point finds the queue full

abbrev alone : Run
alone =
    record {
      configuration = configuration;
      kinds = Line ∷ [];
      events = Piece 0 (codes "a.x 1 5\na.y 2 5\n") 9 ∷ Up 0 ∷ Offer 0 ∷ Offer 0 ∷ Take 0 ∷ Wrote 0 8 ∷ [];
    }

pub alone_handed : (dest_in line_reading alone 0).connections ≡ codes "a.x 1 5\n" ∷ []
unfolding is_utf8 chars encode_utf8 digits
alone_handed = refl

pub alone_first : (dest_in line_reading alone 0).queue ≡ record { points = []; offered = 2; kept = 1; dropped = 1; taken = 1; next = 2 ∷ []; recorded = 3 }
unfolding is_utf8 chars encode_utf8 digits
alone_first = refl

pub alone_second : (dest_in line_reading alone 1).queue ≡ empty_queue 1
unfolding is_utf8 chars encode_utf8 digits
alone_second = refl

pub alone_waiting : waiting_of line_reading configuration (reader_in line_reading alone 0) ≡ []
unfolding is_utf8 chars encode_utf8 digits
alone_waiting = refl

-- ---- the same with another reader beside it, other pieces, a bad line, and points for the second destination

abbrev beside : Run
beside =
    record {
      configuration = configuration;
      kinds = Line ∷ Line ∷ [];
      events =
          Piece 1 (codes "z 1 5\nz 2 5\n") 9 ∷ Offer 1 ∷ Offer 1
          ∷ Piece 0 (codes "bad\na.x 1") 9 ∷ Piece 0 (codes " 5\nq 3 5\na.y 2 5\n") 9
          ∷ Up 0 ∷ Offer 0 ∷ Offer 0 ∷ Offer 0 ∷ Take 0 ∷ Wrote 0 8 ∷ [];
    }

pub beside_handed : (dest_in line_reading beside 0).connections ≡ codes "a.x 1 5\n" ∷ []
unfolding is_utf8 chars encode_utf8 digits
beside_handed = refl

pub beside_first : (dest_in line_reading beside 0).queue ≡ record { points = []; offered = 2; kept = 1; dropped = 1; taken = 1; next = 2 ∷ 0 ∷ []; recorded = 3 }
unfolding is_utf8 chars encode_utf8 digits
beside_first = refl

-- one point is queued: the first that was offered
pub beside_second : (dest_in line_reading beside 1).queue
    ≡ record {
      points = (record { name = codes "z"; value = pos units_of_one; time = 5 }) ∷ [];
      offered = 3;
      kept = 1;
      dropped = 2;
      taken = 0;
      next = 1 ∷ 2 ∷ [];
      recorded = 3;
    }
unfolding is_utf8 chars encode_utf8 digits
beside_second = refl

-- ---- the two runs agree at the first destination

same_points : (r : ℕ) → points_in line_reading alone r 0 ≡ points_in line_reading beside r 0
unfolding is_utf8 chars encode_utf8 digits
same_points zero = refl
same_points (suc zero) = refl
same_points (suc (suc r)) = refl

pub agree_at_first : AgreesAt line_reading 0 alone beside
unfolding is_utf8 chars encode_utf8 digits
agree_at_first = record { size = refl; limit = refl; steps = refl; points = same_points }

-- ---- events that are not allowed

-- of these events of a run, those that are not allowed, by their positions
abbrev refused : WorldState → ℕ → List RunEvent → List ℕ
refused w place [] = []
refused w place (event ∷ events) =
    (if is_allowed line_reading configuration w event then [] else place ∷ []) ++ refused (after line_reading configuration w event) (suc place) events

-- nothing is up, nothing waits, it is up already, and the second destination is not up
pub refused_places : refused (fresh_world configuration (Line ∷ [])) 0 (Take 0 ∷ Offer 0 ∷ Up 0 ∷ Up 0 ∷ End 0 ∷ Down 1 ∷ []) ≡ 0 ∷ 1 ∷ 3 ∷ 5 ∷ []
refused_places = refl

-- a reader or a destination that does not exist
pub refused_strangers : refused (fresh_world configuration (Line ∷ [])) 0 (Piece 1 (codes "a 1 2\n") 9 ∷ End 1 ∷ Offer 1 ∷ Up 2 ∷ []) ≡ 0 ∷ 1 ∷ 2 ∷ 3 ∷ []
refused_strangers = refl

-- a piece while something waits
pub refused_piece : refused (fresh_world configuration (Line ∷ [])) 0 (Piece 0 (codes "a 1 2\n") 9 ∷ Piece 0 (codes "b 3 4\n") 9 ∷ Offer 0 ∷ Piece 0 (codes "b 3 4\n") 9 ∷ []) ≡ 1 ∷ []
unfolding is_utf8 chars encode_utf8 digits
refused_piece = refl
