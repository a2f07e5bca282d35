-- What a replay of lines comes to: every datapoint is handed over, and nothing is left.
use Rattle.std.specs.Prelude.{ℕ, ◌*◌, ◌≡◌, ◌<◌, ◌≤◌, List, [], ◌∷◌, length}
use Rattle.line_text.specs.Datapoint.{Datapoint}
use Rattle.line_text.specs.Connection.{arrivals, accepted_points}
use Rattle.line_text.specs.Print.{printed_lines}
use Rattle.dest_queue.specs.Queue.{seals_of}
use Rattle.dest_queue.specs.Counts.{counts_of}
use Rattle.dest_queue.specs.declared.counts.Counts.{Counts}
use Rattle.router.specs.Plan.{Plan}
use Rattle.reader_core.specs.Kinds.{relay_reading}
use Rattle.reader_core.specs.Configuration.{Configuration, points_for}
use Rattle.relay_core.specs.Destination.{Destination}
use Rattle.relay_core.specs.World.{waiting_of}
use Rattle.relay_core.specs.Run.{Run, dest_in, reader_in}
use Rattle.replay.specs.LinesRun.{run_of_lines}

-- the datapoints of lines that are sent to a destination, rewritten, in order
abbrev pub points_of_lines : Configuration → List ℕ → ℕ → List Datapoint
points_of_lines c lines d = points_for c d (accepted_points (arrivals lines 0))

-- each of this many datapoints was offered, kept and taken
abbrev pub all_taken : ℕ → Counts
all_taken count =
    record {
      offered = count;
      kept = count;
      dropped = 0;
      taken = count;
      queued = 0;
      seals = seals_of (2 * count);
    }

-- one connection got the lines of these datapoints, none is left in hand, and the queue counted each
pub record GotAll (dest : Destination) (points : List Datapoint) : Type 0 where
  pub handed : dest.connections ≡ printed_lines points ∷ []
  pub in_hand : dest.writer.hand ≡ []
  pub counts : counts_of dest.queue ≡ all_taken (length points)

-- no offer waits at the end, and each destination got the lines of its datapoints
pub record HandsOverAll (run : Run) (lines : List ℕ) : Type 0 where
  pub waiting :
      waiting_of relay_reading run.configuration (reader_in relay_reading run 0) ≡ []
  pub each :
      (d : ℕ) → d < run.configuration.destinations
      → GotAll (dest_in relay_reading run d) (points_of_lines run.configuration lines d)

-- for each plan, each queue size and batch limit of at least 1, and all lines
abbrev pub LinesLaw : Type 0
LinesLaw =
    (plan : Plan) (size limit : ℕ) (lines : List ℕ) → 1 ≤ size → 1 ≤ limit
    → HandsOverAll (run_of_lines plan size limit plan.destinations lines) lines
